-- M-110: running each operation to rest gives the screen's holders, its order and its step counts.
pub mod Parties  -- who holds and who waits at a hub
pub mod Shows  -- the claim
pub mod OneWay  -- no other steps lead to rest
