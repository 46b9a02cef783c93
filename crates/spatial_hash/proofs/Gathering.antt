-- The points of the buckets between the bounds' cells: each within the bounds is there, none twice. Assumes nothing.
use mathlib.Core.Path.{◌≡◌, sym, ap, ◌∙◌, subst}
use mathlib.Core.Logic.{⊎_elim}
use mathlib.Core.Bool.{true, false, ◌&&◌}
use mathlib.Core.List.{List}
use Prim.Native.Nat.{ℕ, ◌+◌, ◌*◌, ◌%◌, ◌≤◌, ◌<◌}
use native.Mathlib.Nat.{mod-lt, mul-le-mul}
use native.Mathlib.Decide.{dec_lt}
use native.Mathlib.Omega.{arith}
use lib.Dec.{T, eqb}
use lib.ListN.{length}
use lib.Ieee.{Float}
use lib.Ieee.Scale.{finite}
use Rattle.vector.specs.declared.Point3f.{Point3f}
use Rattle.points.specs.Points.{point_at}
use Rattle.lists.specs.Lists.{count}
use Rattle.lists.specs.Members.{Below}
use Rattle.lists.proofs.Bools.{either, and_both}
use Rattle.lists.proofs.Counts.{pigeons}
use Rattle.bounds.specs.declared.Bounds.{Bounds}
use Rattle.spatial_hash.specs.declared.Hash.{Hash}
use Rattle.spatial_hash.specs.declared.Span.{Span}
use Rattle.spatial_hash.specs.Inner.Buckets.{slot, row_for, place_for, bucket_of, buckets, links_of, is_out, bucket_in, spanned, Spanning, rows, buckets_of_box}
use Rattle.spatial_hash.specs.Inner.Buckets.{points_in, Appended}
use Rattle.bounds.specs.Inner.Cover.{between}
use Rattle.bounds.specs.Inner.Within.{within}
use Rattle.vector.specs.Inner.Numbers.{Finite}
use Rattle.spatial_hash.specs.Inner.Near.{Gathers, Gathered, HashLinked, NeighborRoom}
use Rattle.spatial_hash.proofs.Inside.{bucket_in_lem, bucket_out}
use Rattle.bucket_order.proofs.Chains.{listed_has, listed_beyond}
use Rattle.spatial_hash.proofs.Residues.{residues_once, residues_below, rows_count}
use Rattle.spatial_hash.proofs.Slots.{slot_above, slot_under}

-- the remainders between two coordinates
abbrev pub Axis : Hash → Float → Float → Float → Span → Type 0
Axis h least lo hi s = Spanning h.side (slot h.scale least lo) (slot h.scale least hi) s

module _ (h : Hash) (pts : List Float) (n : ℕ) (w : List ℕ) (b : Bounds) (xs ys zs : Span) (s : HashLinked h pts n w)
    (on_x : Axis h h.least.x b.lo.x b.hi.x xs)
    (on_y : Axis h h.least.y b.lo.y b.hi.y ys)
    (on_z : Axis h h.least.z b.lo.z b.hi.z zs) where
  -- ---- one axis

  -- how often a coordinate's remainder is visited
  met : Float → Float → Span → ℕ
  met least v sp = count (eqb (slot h.scale least v % h.side)) (spanned h.side sp)

  met_once : (least lo hi v : Float) (sp : Span) → Axis h least lo hi sp → met least v sp ≤ 1
  unfolding met
  met_once least lo hi v sp a = residues_once h.side sp.first sp.count _ a.starts a.few (mod-lt _ s.sound.some)

  met_within : (least lo hi v : Float) (sp : Span) → Axis h least lo hi sp → T (finite least) → T (finite v) → between lo hi v ≡ true → 1 ≤ met least v sp
  unfolding met
  met_within least lo hi v sp a g k i =
      let f = s.sound.scale_finite in
      let p = s.sound.positive in
      a.has (slot h.scale least v) (slot_above h.scale least lo hi v f p g k i) (slot_under h.scale least lo hi v f p g k i)

  below : (least lo hi : Float) (sp : Span) → Axis h least lo hi sp → Below h.side (spanned h.side sp)
  below least lo hi sp a = residues_below h.side sp.count sp.first a.starts

  -- ---- all three

  visited : (p : Point3f) → count (eqb (bucket_of h p)) (buckets_of_box h.side xs ys zs)
      ≡ met h.least.x p.x xs * met h.least.y p.y ys * met h.least.z p.z zs
  unfolding met bucket_of row_for place_for
  visited p =
      rows_count (h.side + 1) _ _ (let l = mod-lt (slot h.scale h.least.z p.z) s.sound.some in omega arith)
      (rows h.side (spanned h.side xs) (spanned h.side ys)) (spanned h.side zs) (λ x l. let o = below _ _ _ zs on_z x l in omega arith)
      ∙ ap (λ (k : ℕ). k * met h.least.z p.z zs)
      (rows_count h.side _ _ (mod-lt _ s.sound.some) (spanned h.side xs) (spanned h.side ys) (below _ _ _ ys on_y))

  visited_once : (p : Point3f) → count (eqb (bucket_of h p)) (buckets_of_box h.side xs ys zs) ≤ 1
  visited_once p =
      let x = met_once _ _ _ p.x xs on_x in
      let y = met_once _ _ _ p.y ys on_y in
      let z = met_once _ _ _ p.z zs on_z in
      rw (visited p) (mul-le-mul (mul-le-mul x y) z)

  visited_within : (p : Point3f) → Finite p → within b p ≡ true → 1 ≤ count (eqb (bucket_of h p)) (buckets_of_box h.side xs ys zs)
  unfolding within
  visited_within p f i =
      let c = s.sound.corner in
      let a = and_both {p = between b.lo.x b.hi.x p.x} {q = between b.lo.y b.hi.y p.y && between b.lo.z b.hi.z p.z} i in
      let r = and_both {p = between b.lo.y b.hi.y p.y} {q = between b.lo.z b.hi.z p.z} a.1 in
      let x = met_within _ _ _ p.x xs on_x c.x_finite f.x_finite a.0 in
      let y = met_within _ _ _ p.y ys on_y c.y_finite f.y_finite r.0 in
      let z = met_within _ _ _ p.z zs on_z c.z_finite f.z_finite r.1 in
      rw (visited p) (mul-le-mul (mul-le-mul x y) z)

  -- the bucket of those that are out is none of these
  outside : count (eqb (buckets h)) (buckets_of_box h.side xs ys zs) ≡ 0
  outside =
      let m = h.side in
      let b = below _ _ _ xs on_x m in
      let z : count (eqb m) (spanned m xs) ≡ 0 = elim (dec_lt 0 (count (eqb m) (spanned m xs))) [ yes k ↦ absurd (omega (arith, b k)) | no k ↦ omega arith ] in
      let p : m * m ≡ m * m + 0 = omega arith in
      let q : m * m * (m + 1) ≡ m * m * (m + 1) + 0 = omega arith in
      let pairs : count (eqb (m * m)) (rows m (spanned m xs) (spanned m ys)) ≡ 0 * count (eqb 0) (spanned m ys) =
      ap (λ (c : ℕ). count (eqb c) (rows m (spanned m xs) (spanned m ys))) p
      ∙ rows_count m m 0 s.sound.some (spanned m xs) (spanned m ys) (below _ _ _ ys on_y)
      ∙ ap (λ (c : ℕ). c * count (eqb 0) (spanned m ys)) z in
      let none : count (eqb (m * m)) (rows m (spanned m xs) (spanned m ys)) ≡ 0 = omega arith in
      let all : count (eqb (m * m * (m + 1))) (buckets_of_box m xs ys zs) ≡ 0 * count (eqb 0) (spanned m zs) =
      ap (λ (c : ℕ). count (eqb c) (buckets_of_box m xs ys zs)) q
      ∙ rows_count (m + 1) (m * m) 0 (omega arith) (rows m (spanned m xs) (spanned m ys)) (spanned m zs) (λ x l. let o = below _ _ _ zs on_z x l in omega arith)
      ∙ ap (λ (c : ℕ). c * count (eqb 0) (spanned m zs)) none in
      omega arith

  -- the links, the points visited, and how often point j is
  abbrev ls : List ℕ
  ls = links_of n w

  abbrev visits : List ℕ
  visits = points_in h pts n ls (buckets_of_box h.side xs ys zs)

  met_in : (j : ℕ) → j < n → is_out n ls j ≡ false → count (eqb j) visits ≡ count (eqb (bucket_of h (point_at pts j))) (buckets_of_box h.side xs ys zs)
  met_in j k i = listed_has (bucket_in h pts n ls) n (buckets_of_box h.side xs ys zs) j k ∙ ap (λ (c : ℕ). count (eqb c) (buckets_of_box h.side xs ys zs))
      (bucket_in_lem h pts n ls j i)

  met_out : (j : ℕ) → j < n → is_out n ls j ≡ true → count (eqb j) visits ≡ 0
  met_out j k i = listed_has (bucket_in h pts n ls) n (buckets_of_box h.side xs ys zs) j k ∙ ap (λ (c : ℕ). count (eqb c) (buckets_of_box h.side xs ys zs))
      (bucket_out h pts n ls j i) ∙ outside

  once : (j : ℕ) → count (eqb j) visits ≤ 1
  once j = elim (dec_lt j n) [
    | yes k ↦ ⊎_elim
        (λ (o : is_out n ls j ≡ true). omega (arith, met_out j k o))
        (λ (o : is_out n ls j ≡ false). omega (arith, met_in j k o, visited_once (point_at pts j)))
        (either (is_out n ls j))
    | no k ↦ omega (arith, listed_beyond (bucket_in h pts n ls) n (buckets_of_box h.side xs ys zs) j (omega arith))
  ]

  pub box_gathers : Gathers pts n (is_out n ls) b visits
  box_gathers = record {
    below = λ j l. elim (dec_lt j n) [
      | yes k ↦ k
      | no k ↦ absurd (omega (arith, listed_beyond (bucket_in h pts n ls) n (buckets_of_box h.side xs ys zs) j (omega arith)))
    ];
    once = once;
    complete = λ j k o i. omega (arith, met_in j k o, visited_within (point_at pts j) (s.ready.numbers j k) i);
  }

  few : length visits ≤ n
  few = pigeons n visits once box_gathers.below

  pub box_room : NeighborRoom h pts n w 0 visits
  box_room = record { linked = s; enough = let l = few in omega arith }

  pub box_gathered : (u : List ℕ) (r : ℕ) → Appended n w u 0 r visits → Gathered pts n b w u r
  box_gathered u r a = record {
    most = let l = few in let t = a.total in omega arith;
    gathers = subst (Gathers pts n (is_out n ls) b) (sym a.appended) box_gathers;
    before = a.before;
    after = a.after;
  }
