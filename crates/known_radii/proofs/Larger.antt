-- What is accepted at a radius is accepted at every larger one: where no three points make a seed at a radius, none is
-- found at any smaller one (`larger_nothing`). Assumes nothing.
use Prim.Native.Nat.{ℕ}
use mathlib.Core.Path.{◌≡◌}
use mathlib.Core.Bool.{Bool, true, false, cond}
use mathlib.Core.List.{List}
use mathlib.Core.Option.{none}
use native.Mathlib.Omega.{arith}
use lib.Dec.{T}
use lib.Ieee.{Float, nan, inf, fin, lt, le, eq, of_bits}
use lib.Ieee.Scale.{finite}
use Rattle.numbers.specs.Rounded.{f32, ◌⊗◌}
use Rattle.numbers.specs.Root.{root}
use Rattle.numbers.proofs.ProductOrder.{mul_monotone_finite}
use Rattle.quality.specs.declared.TriangleQuality.{TriangleQuality}
use Rattle.triangle.specs.Quality.{is_zero, source_acceptable, acceptable}
use Rattle.patch.specs.Search.{searching}
use Rattle.decisions.specs.declared.Scene.{Scene}
use Rattle.decisions.specs.Decisions.{is_close, accepts, quality_at, floats_of}
use Rattle.decisions.specs.Inner.Completes.{completes}
use Rattle.three_points.specs.Inner.Judged.{NoSeed, Seedless}
use Rattle.flatness.specs.Inner.Flat.{Flat}
use Rattle.seedless.specs.Inner.Seedless.{SeedlessBetween}
use Rattle.known_radii.specs.declared.Upto.{Upto}
use Rattle.known_radii.specs.declared.Upto.TheVariants.{Radius, Unknown}
use Rattle.known_radii.specs.Inner.Known.{Growing, NothingTo, Silent, RadiusKnown, flat_cloud, up_to}
use Rattle.decisions.proofs.Growth.{not_below, close_more}
use Rattle.seedless.proofs.Nothing.{first_nothing, flat_nothing}
use Rattle.seedless.proofs.Threes.{seedless_nothing}
use Rattle.lists.proofs.Bools.{not-true, true_not_false, and_both}

-- ---- from a radius r to one that is not smaller
module _ (s : Scene) (pts : List Float) (r t : Float) (h : T (le r t)) where
  module _ (fr : T (finite r)) (ft : T (finite t)) (ff : T (finite s.max_edge_factor)) (zf : T (le (f32 0) s.max_edge_factor)) where
    accepts_more : (q : TriangleQuality) → accepts s r q ≡ true → accepts s t q ≡ true
    unfolding accepts acceptable source_acceptable
    accepts_more q = both (is_zero q.area) (lt q.area s.min_triangle_area) (lt q.quality_score s.quality_threshold)
        (not_below (r ⊗ s.max_edge_factor) (t ⊗ s.max_edge_factor) (q.edge_ratio ⊗ root q.area)
        (mul_monotone_finite r t s.max_edge_factor fr ft ff h zf))
      where
        both : {x y : Bool} (z a b : Bool) → (x ≡ true → y ≡ true) → cond z false (cond a false (cond b false x)) ≡ true
            → cond z false (cond a false (cond b false y)) ≡ true
        both true a b f k = k
        both false true b f k = k
        both false false true f k = k
        both false false false f k = f k

    completes_more : (i j k : ℕ) → completes s pts r i j k ≡ true → completes s pts t i j k ≡ true
    unfolding completes
    completes_more i j k c =
        let a = and_both {p = is_close pts r i k} c in
        let b = and_both {p = is_close pts r j k} a.1 in
        rw (close_more pts r t h i k a.0, close_more pts r t h j k b.0) (accepts_more (quality_at pts i j k) b.1)

    no_seed_less : {i j k : ℕ} → NoSeed s pts t i j k → NoSeed s pts r i j k
    no_seed_less {i} {j} {k} f = record {
      forward = λ d. not-true (λ c. true_not_false (completes_more i j k c) (f.forward (close_more pts r t h i j d)));
      backward = λ d. not-true (λ c. true_not_false (completes_more i k j c) (f.backward (close_more pts r t h i k d)));
    }

    seedless_less : {i j k : ℕ} → Seedless s pts t i j k → Seedless s pts r i j k
    seedless_less b = record { first = no_seed_less b.first; second = no_seed_less b.second; third = no_seed_less b.third }

    between_less : (used : List ℕ) (n : ℕ) → SeedlessBetween s pts t used 0 n → SeedlessBetween s pts r used 0 n
    between_less used n b a ha la ua j k hj hk oj ok ne uj uk = seedless_less (b a ha la ua j k hj hk oj ok ne uj uk)

-- ---- nothing is found

pub finite_below : (x y : Float) → T (le (f32 0) x) → T (le x y) → T (finite y) → T (finite x)
unfolding le lt eq of_bits
finite_below nan y z h f = absurd h
finite_below (inf true) y z h f = absurd z
finite_below (inf false) nan z h f = absurd h
finite_below (inf false) (inf true) z h f = absurd h
finite_below (inf false) (inf false) z h f = absurd f
finite_below (inf false) (fin s m e) z h f = absurd h
finite_below (fin s m e) y z h f = tt

pub larger_nothing : (s : Scene) (pts : List Float) (used : List ℕ) (t : Float) → Growing s t → SeedlessBetween s pts t used 0 s.n
    → NothingTo s pts used (Radius t)
unfolding searching
larger_nothing s pts used t g b r q =
    first_nothing (floats_of s pts) r used s.n (λ i hi u. seedless_nothing {lo = 0} used u hi (omega arith) (λ a ha la ua. less a (omega arith) la ua))
    s.n 0 1000 (omega arith)
  where
    less : SeedlessBetween s pts r used 0 s.n
    less = between_less s pts r t q.1 (finite_below r t q.0 q.1 g.radius.number) g.radius.number g.factor.number g.factor.above used s.n b

pub silent_nothing : (s : Scene) (pts : List Float) (used : List ℕ) (upto : Upto) → Silent upto → NothingTo s pts used upto
silent_nothing s pts used upto h x k = absurd (h x k)

pub nothing_yet : (s : Scene) (pts : List Float) (used : List ℕ) → NothingTo s pts used Unknown
nothing_yet s pts used x k = absurd k

pub known_nothing : (s : Scene) (pts : List Float) (used : List ℕ) {flat : Bool} {r : Float} {upto : Upto}
    → RadiusKnown s flat r upto → (flat ≡ true → Flat s pts) → NothingTo s pts used upto → (searching (floats_of s pts) s.n).seed_of r used ≡ none
unfolding searching
known_nothing s pts used {r = r} (flat_cloud h b) f n = flat_nothing s pts r used 1000 b (f h)
known_nothing s pts used {r = r} (up_to h) f n = n r h
