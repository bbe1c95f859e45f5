-- M-110, the desk program: how an answer is printed.
pub mod Text
