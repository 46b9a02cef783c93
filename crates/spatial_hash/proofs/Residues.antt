-- Laws of the remainders that a walk visits: none twice, and each number's own where the span has the number. Two in
-- one number can be told apart. Assumes nothing.
use mathlib.Core.Path.{◌≡◌, refl, sym, ap, ◌∙◌, subst}
use mathlib.Core.Logic.{◌≢◌, ◌⊎◌, inl, inr, ⊎_elim}
use mathlib.Core.Bool.{true, false}
use mathlib.Core.List.{List, [], ◌∷◌, ◌++◌, append_assoc}
use Prim.Native.Nat.{ℕ, zero, suc, ◌+◌, ◌-◌, ◌*◌, ◌%◌, ◌≤◌, ◌<◌}
use native.Mathlib.Nat.{mod-lt, mod-eq_of_lt, mod-add-mod, mod-eq-sub-mod, mul-le-mul_right}
use native.Mathlib.Decide.{dec_lt, dec_le}
use native.Mathlib.Omega.{arith}
use borrow.Author.Tests.{eqb-true, eqb-false, eq-eqb, ne_eqb, lt-ltb, le-ltb}
use lib.Dec.{eqb, ltb}
use Rattle.lists.specs.Lists.{bit, count}
use Rattle.lists.specs.Members.{Below}
use Rattle.lists.proofs.Members.{below_first, below_rest}
use Rattle.lists.proofs.Bools.{either}
use Rattle.lists.proofs.Counts.{bit_le, count_append}
use Rattle.spatial_hash.specs.Inner.Buckets.{next_residue, residues, Spanning, row, rows}

-- ---- one axis

pub next_wraps : (m r : ℕ) → r + 1 ≡ m → next_residue m r ≡ 0
unfolding next_residue
next_wraps m r h = rw (eq-eqb (r + 1) m h, next_residue)

pub next_goes : (m r : ℕ) → (r + 1 ≡ m → ⊥) → next_residue m r ≡ r + 1
unfolding next_residue
next_goes m r h = rw (ne_eqb (r + 1) m h, next_residue)

-- the next one: 0 at the end, else one more
pub next_is : (m r : ℕ) → ((r + 1 ≡ m) × (next_residue m r ≡ 0)) ⊎ ((r + 1 ≡ m → ⊥) × (next_residue m r ≡ r + 1))
next_is m r = ⊎_elim
    (λ (t : eqb (r + 1) m ≡ true). let e = eqb-true (r + 1) m t in inl (e, next_wraps m r e))
    (λ (t : eqb (r + 1) m ≡ false). let e = eqb-false (r + 1) m t in inr (e, next_goes m r e))
    (either (eqb (r + 1) m))

pub next_below : (m r : ℕ) → r < m → next_residue m r < m
next_below m r h = ⊎_elim (λ e. omega arith) (λ e. let ne = e.0 in omega arith) (next_is m r)

pub residues_step : (m r k : ℕ) → 0 < k → residues m r k ≡ r ∷ residues m (next_residue m r) (k - 1)
unfolding residues
residues_step m r zero h = absurd (omega arith)
residues_step m r (suc k) h = let e : suc k - 1 ≡ k = omega arith in ap (λ (i : ℕ). r ∷ residues m (next_residue m r) i) (sym e)

-- x comes d steps after r
After : ℕ → ℕ → ℕ → ℕ → Type 0
After m r d x = (r + d ≡ x) ⊎ (r + d ≡ x + m)

-- it is met if more than d remainders are
residues_met : (m x : ℕ) → x < m → (k r d : ℕ) → r < m → k ≤ m → d < m → After m r d x → count (eqb x) (residues m r k) ≡ bit (ltb d k)
unfolding residues After
residues_met m x l zero r d h q p a = rw (le-ltb d 0 (omega arith))
residues_met m x l (suc k) r zero h q p a =
    let e : x ≡ r = ⊎_elim (λ (t : r + 0 ≡ x). omega arith) (λ (t : r + 0 ≡ x + m). omega arith) a in
    let b : After m (next_residue m r) (m - 1) x = ⊎_elim (λ s. inl (omega arith)) (λ s. inr (omega arith)) (next_is m r) in
    let ih = residues_met m x l k (next_residue m r) (m - 1) (next_below m r h) (omega arith) (omega arith) b in
    rw (eq-eqb x r e, ih, le-ltb (m - 1) k (omega arith), lt-ltb 0 (suc k) (omega arith))
residues_met m x l (suc k) r (suc d) h q p a =
    let ne : x ≡ r → ⊥ = λ (e : x ≡ r). ⊎_elim (λ (t : r + suc d ≡ x). omega arith) (λ (t : r + suc d ≡ x + m). omega arith) a in
    let b : After m (next_residue m r) d x = ⊎_elim
    (λ s. ⊎_elim (λ (t : r + suc d ≡ x). absurd (omega arith)) (λ (t : r + suc d ≡ x + m). inl (omega arith)) a)
    (λ s. ⊎_elim (λ (t : r + suc d ≡ x). inl (omega arith)) (λ (t : r + suc d ≡ x + m). inr (omega arith)) a)
    (next_is m r) in
    let ih = residues_met m x l k (next_residue m r) d (next_below m r h) (omega arith) (omega arith) b in
    rw (ne_eqb x r ne, ih, same d k) (omega arith)
  where
    same : (d k : ℕ) → bit (ltb d k) ≡ bit (ltb (suc d) (suc k))
    same d k = elim (dec_lt d k) [
      | yes h ↦ rw (lt-ltb d k h, lt-ltb (suc d) (suc k) (omega arith))
      | no h ↦ rw (le-ltb d k (omega arith), le-ltb (suc d) (suc k) (omega arith))
    ]

-- how far x is from r
apart : (m r x : ℕ) → r < m → x < m → (d : ℕ) × (d < m) × After m r d x
unfolding After
apart m r x h l = elim (dec_le r x) [
  | yes q ↦ (x - r, omega arith, inl (omega arith))
  | no q ↦ (x + m - r, omega arith, inr (omega arith))
]

pub residues_once : (m r k x : ℕ) → r < m → k ≤ m → x < m → count (eqb x) (residues m r k) ≤ 1
residues_once m r k x h q l =
    let a = apart m r x h l in
    omega (arith, residues_met m x l k r a.0 h q a.1 a.2, bit_le (ltb a.0 k))

pub residues_below : (m k r : ℕ) → r < m → Below m (residues m r k)
unfolding residues
residues_below m zero r h x q = absurd (omega arith)
residues_below m (suc k) r h x q =
    let ih = residues_below m k (next_residue m r) (next_below m r h) x in
    ⊎_elim
    (λ (t : eqb x r ≡ true). let e = eqb-true x r t in omega arith)
    (λ (t : eqb x r ≡ false). let z : bit (eqb x r) ≡ 0 = ap bit t in ih (omega arith))
    (either (eqb x r))

-- ---- spans

-- from a's remainder it is as far to v's as from a to v
mod_after : (m a v : ℕ) → 0 < m → a ≤ v → v - a < m → After m (a % m) (v - a) (v % m)
unfolding After
mod_after m a v p h l =
    let e : (a % m + (v - a)) % m ≡ v % m = mod-add-mod a m (v - a) ∙ ap (λ (i : ℕ). i % m) (whole h) in
    let q = mod-lt a p in
    elim (dec_lt (a % m + (v - a)) m) [
      | yes s ↦ inl (sym (mod-eq_of_lt s) ∙ e)
      | no s ↦
          let g : m ≤ a % m + (v - a) = omega arith in
          let f : a % m + (v - a) - m < m = omega arith in
          let z : a % m + (v - a) - m ≡ v % m = sym (mod-eq_of_lt f) ∙ sym (mod-eq-sub-mod g) ∙ e in
          inr (omega arith)
    ]
  where
    whole : a ≤ v → a + (v - a) ≡ v
    whole h = omega arith

pub span_empty : (m a b : ℕ) → 0 < m → b < a → Spanning m a b (record { first = a % m; count = 0 })
span_empty m a b p h = record { starts = mod-lt a p; few = omega arith; has = λ v l g. absurd (omega arith) }

pub span_part : (m a b : ℕ) → 0 < m → a ≤ b → b - a < m → Spanning m a b (record { first = a % m; count = b - a + 1 })
span_part m a b p h l = record {
  starts = mod-lt a p;
  few = omega arith;
  has = λ v g k.
      let s : v - a < b - a + 1 = omega arith in
      omega (
        arith,
        residues_met m (v % m) (mod-lt v p) (b - a + 1) (a % m) (v - a) (mod-lt a p) (omega arith) (omega arith)
            (mod_after m a v p g (omega arith)),
        ap bit (lt-ltb (v - a) (b - a + 1) s),
      );
}

pub span_whole : (m a b : ℕ) → 0 < m → Spanning m a b (record { first = a % m; count = m })
span_whole m a b p = record {
  starts = mod-lt a p;
  few = omega arith;
  has = λ v g k.
      let d = apart m (a % m) (v % m) (mod-lt a p) (mod-lt v p) in
      omega (arith, residues_met m (v % m) (mod-lt v p) m (a % m) d.0 (mod-lt a p) (omega arith) d.1 d.2, ap bit (lt-ltb d.0 m d.1));
}

-- ---- two remainders in one number

row_own : (m p q : ℕ) → q < m → (qs : List ℕ) → Below m qs → count (eqb (p * m + q)) (row m p qs) ≡ count (eqb q) qs
unfolding row
row_own m p q h [] b = refl
row_own m p q h (q' ∷ qs) b =
    let ih = row_own m p q h qs (below_rest m q' qs b) in
    let l = below_first m q' qs b in
    ⊎_elim
    (λ (t : eqb q q' ≡ true). let e = eqb-true q q' t in rw (t, eq-eqb (p * m + q) (p * m + q') (omega arith), ih))
    (λ (t : eqb q q' ≡ false). let ne = eqb-false q q' t in rw (t, ne_eqb (p * m + q) (p * m + q') (λ (e : p * m + q ≡ p * m + q'). omega arith), ih))
    (either (eqb q q'))

differ : (m p q p' q' : ℕ) → q < m → q' < m → p < p' → p * m + q ≡ p' * m + q' → ⊥
differ m p q p' q' h k l e = let s : suc p * m ≤ p' * m = mul-le-mul_right m l in omega arith

-- numbers with different remainders are different
pub joined_apart : (m p q p' q' : ℕ) → q < m → q' < m → q ≢ q' → p * m + q ≡ p' * m + q' → ⊥
joined_apart m p q p' q' h k d e = elim (dec_lt p p') [
  | yes l ↦ differ m p q p' q' h k l e
  | no l ↦ elim (dec_lt p' p) [
    | yes r ↦ differ m p' q' p q k h r (sym e)
    | no r ↦
        let z : p ≡ p' = omega arith in
        let x = ap (λ (i : ℕ). i * m) z in
        d (omega arith)
  ]
]

row_other : (m p q p' : ℕ) → q < m → (p ≡ p' → ⊥) → (qs : List ℕ) → Below m qs → count (eqb (p * m + q)) (row m p' qs) ≡ 0
unfolding row
row_other m p q p' h ne [] b = refl
row_other m p q p' h ne (q' ∷ qs) b =
    let ih = row_other m p q p' h ne qs (below_rest m q' qs b) in
    let l = below_first m q' qs b in
    rw (ne_eqb (p * m + q) (p' * m + q') (apart_from l), ih)
  where
    apart_from : q' < m → p * m + q ≡ p' * m + q' → ⊥
    apart_from l e = elim (dec_lt p p') [
      | yes s ↦ differ m p q p' q' h l s e
      | no s ↦ differ m p' q' p q l h (omega arith) (sym e)
    ]

pub rows_count : (m p q : ℕ) → q < m → (ps qs : List ℕ) → Below m qs → count (eqb (p * m + q)) (rows m ps qs) ≡ count (eqb p) ps * count (eqb q) qs
unfolding rows
rows_count m p q h [] qs b = omega arith
rows_count m p q h (p' ∷ ps) qs b =
    let ih = rows_count m p q h ps qs b in
    let s = count_append (eqb (p * m + q)) (row m p' qs) (rows m ps qs) in
    ⊎_elim
    (λ (t : eqb p p' ≡ true).
    let e = eqb-true p p' t in
    let o : count (eqb (p * m + q)) (row m p' qs)
    ≡ count (eqb q) qs = subst (λ (i : ℕ). count (eqb (p * m + q)) (row m i qs) ≡ count (eqb q) qs) e (row_own m p q h qs b) in
    rw t (omega arith))
    (λ (t : eqb p p' ≡ false). let o = row_other m p q p' h (eqb-false p p' t) qs b in rw t (omega arith))
    (either (eqb p p'))

pub rows_append : (m : ℕ) (ps ps' qs : List ℕ) → rows m (ps ++ ps') qs ≡ rows m ps qs ++ rows m ps' qs
unfolding rows
rows_append m [] ps' qs = refl
rows_append m (p ∷ ps) ps' qs = ap (λ (l : List ℕ). row m p qs ++ l) (rows_append m ps ps' qs) ∙ simp append_assoc
