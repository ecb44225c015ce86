pub mod Looking
pub mod Beginning
