-- If any face is laid, some triple reached the quality test at some radius; and the last of rising radii decides
-- whether one did. Assumes nothing.
use Prim.Native.Nat.{ℕ, ◌≤◌}
use mathlib.Core.Path.{◌≡◌, refl, sym, ap, ◌∙◌, subst}
use mathlib.Core.Logic.{⊎_elim}
use mathlib.Core.Bool.{Bool, true, false}
use mathlib.Core.List.{List, [], ◌∷◌}
use mathlib.Core.Option.{Option, none, some}
use native.Mathlib.Omega.{arith}
use lib.Dec.{eqb}
use lib.ListN.{length, get_or, replicate}
use Rattle.lists.specs.Lists.{bit, count, any, up_from}
use Rattle.patch.specs.Lay.{State, Pop, cleared, begun, lay_one, lay_all, blank, patch}
use Rattle.patch.specs.Search.{Floats, first_of, searching}
use Rattle.lists.proofs.Bools.{either, true_not_false}
use Rattle.lists.proofs.Counts.{bit_true, any_true, any_false, true_any}
use Rattle.reaching.specs.Reaching.{reaches}
use Rattle.reaching.specs.Triple.{Reaches, Grows, Each, Pairwise, last_from}
use Rattle.reaching.proofs.Reaching.{seed_reaches, reaches_exactly}

bit_false : {b : Bool} → bit b ≡ 0 → b ≡ false
bit_false {b = true} h = absurd (omega arith)
bit_false {b = false} h = refl

equal : (p q : Bool) → (p ≡ true → q ≡ true) → (q ≡ true → p ≡ true) → p ≡ q
equal true q h g = sym (h refl)
equal false true h g = g refl
equal false false h g = refl

module _ {R : Type 0} (a : Floats R) (n : ℕ) where
  pub reaches_grows : (r s : R) → Grows a r s → reaches a n r ≡ true → reaches a n s ≡ true
  reaches_grows r s g h =
      let t = (reaches_exactly a n r).0 h in
      (reaches_exactly a n s).1 (record {
        i = t.i;
        j = t.j;
        k = t.k;
        point = t.point;
        tried = t.tried;
        differ = t.differ;
        second = g.near t.i t.j t.second;
        third = g.near t.i t.k t.third;
        close_ij = g.close t.i t.j t.close_ij;
        close_ik = g.close t.i t.k t.close_ik;
        close_jk = g.close t.j t.k t.close_jk;
      })

  -- ---- the last radius decides
  below_last : (r : R) (rs : List R) → Each (Grows a r) rs → reaches a n r ≡ true → reaches a n (last_from r rs) ≡ true
  unfolding last_from
  below_last r [] e h = h
  below_last r (s ∷ rs) e h = go rs s e.0 e.1
    where
      go : (ts : List R) (s : R) → Grows a r s → Each (Grows a r) ts → reaches a n (last_from s ts) ≡ true
      go [] s g e = reaches_grows r s g h
      go (t ∷ ts) s g e = go ts t e.0 e.1

  up : (rs : List R) (r : R) → Pairwise (Grows a) (r ∷ rs) → 1 ≤ count (reaches a n) (r ∷ rs) → reaches a n (last_from r rs) ≡ true
  unfolding last_from
  up [] r o m = bit_true (omega arith)
  up (s ∷ ts) r o m = ⊎_elim
      (λ (t : reaches a n r ≡ true). below_last r (s ∷ ts) o.0 t)
      (λ (t : reaches a n r ≡ false). let z : bit (reaches a n r) ≡ 0 = ap bit t in up ts s o.1 (omega arith))
      (either (reaches a n r))

  down : (rs : List R) (r : R) → reaches a n (last_from r rs) ≡ true → 1 ≤ count (reaches a n) (r ∷ rs)
  unfolding last_from
  down [] r h = let z : bit (reaches a n r) ≡ 1 = ap bit h in omega arith
  down (s ∷ ts) r h = let ih = down ts s h in omega arith

  pub last_decides : (r : R) (rs : List R) → Pairwise (Grows a) (r ∷ rs) → any (reaches a n) (r ∷ rs) ≡ reaches a n (last_from r rs)
  last_decides r rs o = equal (any (reaches a n) (r ∷ rs)) (reaches a n (last_from r rs)) (λ h. up rs r o (any_true (reaches a n) (r ∷ rs) h))
      (λ h. true_any (reaches a n) (r ∷ rs) (down rs r h))

  -- ---- where none reaches it, nothing is laid, and no point is used
  no_seed : (r : R) → reaches a n r ≡ false → first_of a r (replicate n 0) (up_from 0 n) 1000 ≡ none
  no_seed r h = go (first_of a r (replicate n 0) (up_from 0 n) 1000) refl
    where
      go : (o : Option (ℕ × ℕ × ℕ)) → first_of a r (replicate n 0) (up_from 0 n) 1000 ≡ o → o ≡ none
      go none q = refl
      go (some t) q = absurd (true_not_false ((reaches_exactly a n r).1 (seed_reaches a n r t q)) h)

  one_nothing : (pop : Pop) (r : R) (s : State) → s.used ≡ replicate n 0 → reaches a n r ≡ false → lay_one (searching a n) pop n r s ≡ cleared s
  unfolding lay_one searching begun
  one_nothing pop r s u h = ap (λ (o : Option (ℕ × ℕ × ℕ)). begun (searching a n) pop r n o (cleared s))
      (ap (λ (w : List ℕ). first_of a r w (up_from 0 n) 1000) u ∙ no_seed r h)

  lay_nothing : (pop : Pop) (rs : List R) (s : State) → s.used ≡ replicate n 0 → count (reaches a n) rs ≡ 0
      → ((lay_all (searching a n) pop n rs s).faces ≡ s.faces) × ((lay_all (searching a n) pop n rs s).used ≡ replicate n 0)
  unfolding lay_all cleared
  lay_nothing pop [] s u m = (refl, u)
  lay_nothing pop (r ∷ rs) s u m =
      let e = one_nothing pop r s u (bit_false (omega arith)) in
      let on = lay_nothing pop rs (lay_one (searching a n) pop n r s) (ap (λ (x : State). x.used) e ∙ u) (omega arith) in
      (on.0 ∙ ap (λ (x : State). x.faces) e, on.1)

  -- if a face is laid, some triple reached the quality test at some radius
  pub faces_reached : (pop : Pop) (rs : List R) → 1 ≤ length (patch (searching a n) pop n rs).faces → any (reaches a n) rs ≡ true
  unfolding patch
  faces_reached pop rs h = ⊎_elim
      (λ (t : any (reaches a n) rs ≡ true). t)
      (λ (t : any (reaches a n) rs ≡ false).
      let e = ap length (lay_nothing pop rs (blank n) refl (any_false (reaches a n) rs t)).0 in
      absurd (omega arith))
      (either (any (reaches a n) rs))

-- the last of a list stands at its end
pub last_at_lem : {R : Type 0} (d r : R) (rs : List R) → get_or (r ∷ rs) (length rs) d ≡ last_from r rs
unfolding last_from
last_at_lem d r [] = refl
last_at_lem d r (s ∷ rs) = last_at_lem d s rs

-- what is asked before the quality test settles it: floats with the same neighbours and the same closeness reach it at
-- the same radii
module _ {R : Type 0} (n : ℕ) (r : R) where
  moved : (a b : Floats R) → a.near ≡ b.near → a.close ≡ b.close → Reaches a n r → Reaches b n r
  moved a b e f t = record {
    i = t.i;
    j = t.j;
    k = t.k;
    point = t.point;
    tried = t.tried;
    differ = t.differ;
    second = subst (λ (g : R → ℕ → List ℕ). 1 ≤ count (eqb t.j) (g r t.i)) e t.second;
    third = subst (λ (g : R → ℕ → List ℕ). 1 ≤ count (eqb t.k) (g r t.i)) e t.third;
    close_ij = subst (λ (g : R → ℕ → ℕ → Bool). g r t.i t.j ≡ true) f t.close_ij;
    close_ik = subst (λ (g : R → ℕ → ℕ → Bool). g r t.i t.k ≡ true) f t.close_ik;
    close_jk = subst (λ (g : R → ℕ → ℕ → Bool). g r t.j t.k ≡ true) f t.close_jk;
  }

  pub reaches_same : (a b : Floats R) → a.near ≡ b.near → a.close ≡ b.close → reaches a n r ≡ reaches b n r
  reaches_same a b e f = equal (reaches a n r) (reaches b n r)
      (λ h. (reaches_exactly b n r).1 (moved a b e f ((reaches_exactly a n r).0 h)))
      (λ h. (reaches_exactly a n r).1 (moved b a (sym e) (sym f) ((reaches_exactly b n r).0 h)))
