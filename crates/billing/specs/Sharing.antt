-- "Each share is rounded down to the cent. The cents left over go one each to the largest remainders,
-- the lower party first among equals. If nobody got a link, the shares are equal under the same rule."
use Rattle.std.specs.Prelude.{ℕ, ◌+◌, ◌*◌, ◌-◌, ◌/◌, ◌%◌, ◌≤◌, ◌<◌, Bool, cond, ◌&&◌, ◌||◌, List, eqb, ltb, get_or}
use Rattle.hub.specs.Basics.{bit}
use Rattle.billing.specs.declared.Terms.{Terms}
use Rattle.billing.specs.Counting.{sum, count_below, table}

abbrev pub granted : Terms → ℕ → ℕ
granted t p = get_or t.grants p 0

-- What a party's share goes by, if it got so many of all links: those; if nobody got one, one each.
unfoldable pub weighed : ℕ → ℕ → ℕ
weighed all links = cond (eqb all 0) 1 links

abbrev pub weight : Terms → ℕ → ℕ
weight t p = weighed (sum (granted t) t.parties) (granted t p)

abbrev pub whole : Terms → ℕ
whole t = sum (weight t) t.parties

-- The exact portion is the fee × weight ÷ whole: its whole cents, and what remains of it.
abbrev pub rounded_down : Terms → ℕ → ℕ
rounded_down t p = t.fee * weight t p / whole t

abbrev pub remainder : Terms → ℕ → ℕ
remainder t p = t.fee * weight t p % whole t

-- The cents left over.
abbrev pub left_over : Terms → ℕ
left_over t = t.fee - sum (rounded_down t) t.parties

-- Party q, with remainder r, comes before party p, with remainder s: the larger remainder first, the
-- lower party first among equals.
unfoldable pub precedes : ℕ → ℕ → ℕ → ℕ → Bool
precedes r q s p = ltb s r || (eqb r s && ltb q p)

-- How many of n parties with these remainders come before party p.
unfoldable pub rank : (ℕ → ℕ) → ℕ → ℕ → ℕ
rank r n p = count_below (λ q. precedes (r q) q (r p) p) n

-- A cent more for as many parties as there are cents left over, the first in that order.
unfoldable pub share : Terms → ℕ → ℕ
share t p = rounded_down t p + bit (ltb (rank (remainder t) t.parties p) (left_over t))

-- 32 numbers: f of the parties below n, then 0.
abbrev pub up_to : ℕ → (ℕ → ℕ) → List ℕ
up_to n f = table 32 (λ p. cond (ltb p n) (f p) 0)

-- What a bill is that is not refused.
pub record Billable (t : Terms) : Type 0 where
  pub some : 1 ≤ t.parties
  pub parties : t.parties ≤ 32
  pub fee : t.fee ≤ 1000000
  pub grants : (p : ℕ) → p < 32 → granted t p ≤ 100000000
