-- M-190, the door book: a frame, the book and its answers, the book as bytes, whole runs.
pub mod Frame
pub mod Book
pub mod Bytes
pub mod Runs
