-- M-110, the desk program: what a line of its input is answered.
pub mod Replies
