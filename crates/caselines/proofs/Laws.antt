pub mod Text  -- bytes written as characters, one after another
