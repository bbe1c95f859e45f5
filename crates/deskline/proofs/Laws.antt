-- Working forms of the definitions.
pub mod PutAt
pub mod Numbers
