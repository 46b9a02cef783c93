-- Laws of the bounds: beyond an end that is far enough every square is above the limit, and one axis is enough. Assumes
-- nothing.
use mathlib.Core.Path.{◌≡◌, refl, sym, subst}
use mathlib.Core.Logic.{◌⊎◌, inl, inr, ⊎_elim}
use mathlib.Core.Bool.{Bool, true, false, not, ◌&&◌, true≢false}
use lib.Dec.{T}
use lib.Ieee.{Float, nan, inf, fin, binary32, lt, le, eq, neg, div, fits, of_bits}
use lib.Ieee.Fits.{and_l, and_r}
use lib.Ieee.Scale.{finite}
use Rattle.numbers.specs.Rounded.{f32, ◌⊖◌, ◌⊗◌}
use Rattle.numbers.specs.Root.{root}
use Rattle.numbers.proofs.OrderLaws.{lt_le, lt_le_trans, not_le_lt, bottom_le, le_top, top_le, finite_number}
use Rattle.numbers.proofs.ProductOrder.{square_beyond}
use Rattle.numbers.proofs.RootMonotone.{root_monotone}
use Rattle.vector.specs.Vector.{squared}
use Rattle.vector.specs.Inner.Numbers.{Finite}
use Rattle.vector.specs.declared.Point3f.{Point3f}
use Rattle.vector.proofs.Distances.{squared_x, squared_y, squared_z}
use Rattle.bounds.specs.declared.Interval.{Interval}
use Rattle.bounds.specs.Inner.Cover.{between, is_covering, CoversOn}
use Rattle.bounds.specs.Inner.Within.{within, Limit, Covers}

-- ---- the limit

abbrev pub high : Float
high = div binary32 (of_bits binary32 0x3f800000) (of_bits binary32 0)

abbrev pub low : Float
low = div binary32 (neg (of_bits binary32 0x3f800000)) (of_bits binary32 0)

pub limit_none : (r : Float) → Limit r high
unfolding div of_bits lt
limit_none r nan f h = absurd h
limit_none r (inf true) f h = absurd h
limit_none r (inf false) f h = absurd h
limit_none r (fin t m e) f h = absurd h

pub limit_tested : (r t : Float) → T (fits binary32 t) → T (le (f32 0) t) → T (lt r (root t)) → Limit r t
limit_tested r t f z l s g h = lt_le_trans r (root t) (root s) l (root_monotone t s f g z (lt_le t s h))

-- ---- one axis

either_false : (a b : Bool) → (a && b) ≡ false → (a ≡ false) ⊎ (b ≡ false)
either_false true b h = inr h
either_false false b h = inl refl

not_T : (a : Bool) → a ≡ false → T (not a)
not_T a h = subst (λ (b : Bool). T (not b)) (sym h) tt

clash : {A : Type 0} (a : Bool) → T a → a ≡ false → A
clash true t h = absurd (true≢false h)
clash false t h = absurd t

module _ (v t q : Float) (f : T (finite v)) (g : T (finite q)) where
  pub below_end : (lo : Float) → T (le lo v) → T (lt t ((lo ⊖ v) ⊗ (lo ⊖ v))) → le lo q ≡ false → T (lt t ((q ⊖ v) ⊗ (q ⊖ v)))
  unfolding le lt eq
  below_end nan l s h = absurd l
  below_end (inf true) l s h = clash (le (inf true) q) (bottom_le q (finite_number q g)) h
  below_end (inf false) l s h = absurd (subst (λ (x : Float). T (finite x)) (top_le v l) f)
  below_end (fin a m e) l s h =
      let k = lt_le q (fin a m e) (not_le_lt (fin a m e) q (finite_number (fin a m e) tt) (finite_number q g) (not_T (le (fin a m e) q) h)) in
      lt_le_trans t ((fin a m e ⊖ v) ⊗ (fin a m e ⊖ v)) ((q ⊖ v) ⊗ (q ⊖ v)) s (square_beyond v (fin a m e) q f tt g (inr (l, k)))

  pub above_end : (hi : Float) → T (le v hi) → T (lt t ((hi ⊖ v) ⊗ (hi ⊖ v))) → le q hi ≡ false → T (lt t ((q ⊖ v) ⊗ (q ⊖ v)))
  unfolding le lt eq
  above_end nan l s h = absurd (never v l)
    where
      never : (v : Float) → T (le v nan) → ⊥
      never nan l = l
      never (inf b) l = l
      never (fin b m e) l = l
  above_end (inf false) l s h = clash (le q (inf false)) (le_top q (finite_number q g)) h
  above_end (inf true) l s h = absurd (never v f l)
    where
      never : (v : Float) → T (finite v) → T (le v (inf true)) → ⊥
      never nan f l = f
      never (inf b) f l = f
      never (fin b m e) f l = l
  above_end (fin a m e) l s h =
      let k = lt_le (fin a m e) q (not_le_lt q (fin a m e) (finite_number q g) (finite_number (fin a m e) tt) (not_T (le q (fin a m e)) h)) in
      lt_le_trans t ((fin a m e ⊖ v) ⊗ (fin a m e ⊖ v)) ((q ⊖ v) ⊗ (q ⊖ v)) s (square_beyond v (fin a m e) q f tt g (inl (l, k)))

pub covers_tested : (v t lo hi : Float) → T (finite v) → is_covering v t lo hi ≡ true → CoversOn v t (record { lo = lo; hi = hi })
unfolding is_covering
covers_tested v t lo hi f e q g h =
    let l = lt t ((lo ⊖ v) ⊗ (lo ⊖ v)) in
    let r = lt t ((hi ⊖ v) ⊗ (hi ⊖ v)) in
    let a : T (le lo v && (le v hi && (l && r))) = subst T (sym e) tt in
    let b = and_r (le lo v) (le v hi && (l && r)) a in
    let c = and_r (le v hi) (l && r) b in
    ⊎_elim
    (below_end v t q f g lo (and_l (le lo v) (le v hi && (l && r)) a) (and_l l r c))
    (above_end v t q f g hi (and_l (le v hi) (l && r) b) (and_r l r c))
    (either_false (le lo q) (le q hi) h)

anywhere : (v : Float) → T (finite v) → between low high v ≡ true
unfolding div of_bits lt le neg
anywhere nan h = absurd h
anywhere (inf s) h = absurd h
anywhere (fin s m e) h = refl

pub covers_all : (v t : Float) → CoversOn v t (record { lo = low; hi = high })
covers_all v t q g h = clash (between low high q) (subst T (sym (anywhere q g)) tt) h

-- ---- all three

pub covers : (p : Point3f) (t : Float) (x y z : Interval) → Finite p → CoversOn p.x t x → CoversOn p.y t y → CoversOn p.z t z
    → Covers p t (record { lo = record { x = x.lo; y = y.lo; z = z.lo }; hi = record { x = x.hi; y = y.hi; z = z.hi } })
unfolding within
covers p t x y z f a b c q g h = ⊎_elim
    (λ k. lt_le_trans t _ (squared q p) (a q.x g.x_finite k) (squared_x q p g f))
    (λ r. ⊎_elim
    (λ k. lt_le_trans t _ (squared q p) (b q.y g.y_finite k) (squared_y q p g f))
    (λ k. lt_le_trans t _ (squared q p) (c q.z g.z_finite k) (squared_z q p g f))
    (either_false (between y.lo y.hi q.y) (between z.lo z.hi q.z) r))
    (either_false (between x.lo x.hi q.x) (between y.lo y.hi q.y && between z.lo z.hi q.z) h)
