-- Numbers of 32 bits are told by their ranks, and edges by their keys. Assumes nothing.
use Rattle.std.specs.Prelude.{◌≡◌, ℕ, ◌+◌, ◌*◌, ◌^◌, ◌<◌, true, ℤ}
use Rattle.std.proofs.Common.{ap₂, arith}
use Rattle.std.proofs.lemmas.Int.{ints}
use Rattle.std.proofs.lemmas.Bool.{and_parts}
use Rattle.kinds.specs.declared.triangle.Edge.{Edge}
use Rattle.kinds.specs.Numbers.{fits, rank}
use Rattle.kinds.specs.Triangles.{real_edge, edge_key}

rank_below : (z : ℤ) → fits z ≡ true → rank z < 2 ^ 32
rank_below z h = grind (arith, ints)

rank_tells : (y z : ℤ) → fits y ≡ true → fits z ≡ true → rank y ≡ rank z → y ≡ z
rank_tells y z h k e = grind (arith, ints)

-- two ranks in one number
halves : (a b c d : ℕ) → b < 2 ^ 32 → d < 2 ^ 32 → 2 ^ 32 * a + b ≡ 2 ^ 32 * c + d → (a ≡ c) × (b ≡ d)
halves a b c d h k e = (omega arith, omega arith)

abbrev edge : ℤ → ℤ → Edge
edge u v = record { low = record { 0 = u }; high = record { 0 = v } }

pub keys_tell : (e f : Edge) → real_edge e ≡ true → real_edge f ≡ true → edge_key e ≡ edge_key f → e ≡ f
keys_tell e f h k same =
    let r = and_parts (fits e.low.0) (fits e.high.0) h in
    let s = and_parts (fits f.low.0) (fits f.high.0) k in
    let d = halves (rank e.low.0) (rank e.high.0) (rank f.low.0) (rank f.high.0) (rank_below e.high.0 r.1) (rank_below f.high.0 s.1) same in
    let low = rank_tells e.low.0 f.low.0 r.0 s.0 d.0 in
    let high = rank_tells e.high.0 f.high.0 r.1 s.1 d.1 in
    ap₂ edge low high
