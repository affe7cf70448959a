-- The turns of the loops: rows emptied, cells chained.
use Rattle.std.proofs.Common.{◌≡◌, ℕ, suc, ◌+◌, ◌-◌, ◌<◌, ◌≤◌, List, set, arith}
use Rattle.links.specs.Area.{place_at, tail_at, header_of, emptied, chained}
use Rattle.links.specs.declared.shape.Shape.{Shape}

pub emptied_more : (h : Shape) (k r : ℕ) (n : List ℕ) → r < k →
    emptied (k - (r + 1)) h (r + 1) (set (set n (place_at h (header_of h r)) h.cells) (tail_at h r) (header_of h r)) ≡ emptied (k - r) h r n
emptied_more h k r n lt = let e : k - r ≡ suc (k - (r + 1)) = omega arith in rw e

pub emptied_all : (h : Shape) (k r : ℕ) (n : List ℕ) → k ≤ r → emptied (k - r) h r n ≡ n
emptied_all h k r n le = let e : k - r ≡ 0 = omega arith in rw e

pub chained_more : (h : Shape) (k c : ℕ) (n : List ℕ) → c < k → chained (k - (c + 1)) h (c + 1) (set n (place_at h c) (c + 1)) ≡ chained (k - c) h c n
chained_more h k c n lt = let e : k - c ≡ suc (k - (c + 1)) = omega arith in rw e

pub chained_all : (h : Shape) (k c : ℕ) (n : List ℕ) → k ≤ c → chained (k - c) h c n ≡ n
chained_all h k c n le = let e : k - c ≡ 0 = omega arith in rw e
