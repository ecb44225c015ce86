-- Each member of the cycle at one choice of arguments, over any tables, from what it calls and from the members at smaller sizes.
mod Tries
mod Members
mod statement
mod block
mod body
mod declarations
mod statements
