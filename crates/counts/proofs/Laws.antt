-- Lemmas: a loop that counts; what is asked of slots and of places.
pub mod Counting
pub mod Shown
