-- From what the code counts to what the definitions count.
pub mod Laws
