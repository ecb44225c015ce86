-- A stack of frames held in arrays, and what each move of the frame machine is on the arrays, in reading order.
pub mod Holds
pub mod Displays
pub mod Found
