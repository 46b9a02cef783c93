-- Cell numbers keep the order of the coordinates, and those of the bounds too, infinite ones among them. Assumes
-- nothing.
use mathlib.Core.Path.{◌≡◌, sym, subst}
use mathlib.Core.Bool.{true, false}
use Prim.Native.Nat.{◌≤◌}
use lib.Dec.{T}
use lib.Ieee.{Float, nan, inf, fin, lt, le, eq, sub, add, neg}
use lib.Ieee.Scale.{finite}
use lib.Ieee.Fits.{and_l, and_r}
use Rattle.numbers.specs.Rounded.{f32, ◌⊖◌}
use Rattle.numbers.proofs.OrderLaws.{lt_le, bottom_le, le_top, top_le}
use Rattle.numbers.proofs.SumOrder.{sub_monotone, sub_number}
use Rattle.numbers.proofs.CutOrder.{cut_product_monotone}
use Rattle.spatial_hash.specs.Inner.Buckets.{slot}
use Rattle.bounds.specs.Inner.Cover.{between}

-- a number is subtracted from two, the lower or the upper of which may be infinite
sub_low : (x y a : Float) → T (finite y) → T (finite a) → T (le x y) → T (le (x ⊖ a) (y ⊖ a))
unfolding le lt eq sub add neg
sub_low x y nan g k h = absurd k
sub_low x y (inf s) g k h = absurd k
sub_low nan y (fin s m e) g k h = absurd h
sub_low (inf true) y (fin s m e) g k h = bottom_le (y ⊖ fin s m e) (sub_number y (fin s m e) g k)
sub_low (inf false) y (fin s m e) g k h = absurd (subst (λ (v : Float). T (finite v)) (top_le y h) g)
sub_low (fin t n d) y (fin s m e) g k h = sub_monotone (fin t n d) y (fin s m e) tt g k h

sub_high : (x y a : Float) → T (finite x) → T (finite a) → T (le x y) → T (le (x ⊖ a) (y ⊖ a))
unfolding le lt eq sub add neg
sub_high x y nan f k h = absurd k
sub_high x y (inf s) f k h = absurd k
sub_high nan y (fin s m e) f k h = absurd f
sub_high (inf t) y (fin s m e) f k h = absurd f
sub_high (fin t n d) nan (fin s m e) f k h = absurd h
sub_high (fin t n d) (inf true) (fin s m e) f k h = absurd h
sub_high (fin t n d) (inf false) (fin s m e) f k h = le_top (fin t n d ⊖ fin s m e) (sub_number (fin t n d) (fin s m e) f k)
sub_high (fin t n d) (fin t' n' d') (fin s m e) f k h = sub_monotone (fin t n d) (fin t' n' d') (fin s m e) f tt k h

module _ (scale least lo hi v : Float) (f : T (finite scale)) (p : T (lt (f32 0) scale)) (g : T (finite least)) (k : T (finite v))
    (h : between lo hi v ≡ true) where
  pub slot_above : slot scale least lo ≤ slot scale least v
  unfolding slot
  slot_above = cut_product_monotone (lo ⊖ least) (v ⊖ least) scale f (sub_low lo v least k g (and_l (le lo v) (le v hi) (subst T (sym h) tt)))
      (lt_le (f32 0) scale p)

  pub slot_under : slot scale least v ≤ slot scale least hi
  unfolding slot
  slot_under = cut_product_monotone (v ⊖ least) (hi ⊖ least) scale f (sub_high v hi least k g (and_r (le lo v) (le v hi) (subst T (sym h) tt)))
      (lt_le (f32 0) scale p)
