-- What the two calls answer and leave, one law for each way out. Assumes nothing.
use mathlib.Core.Path.{◌≡◌, refl, sym, ap, ◌∙◌, subst⁻¹}
use mathlib.Core.Bool.{Bool, true, false, cond, ◌&&◌}
use mathlib.Core.List.{List, [], ◌∷◌}
use Prim.Native.Nat.{ℕ, suc, ◌+◌, ◌/◌, ◌%◌, ◌≤◌, ◌<◌}
use native.Mathlib.Omega.{arith}
use lib.Dec.{leb, ltb, eqb}
use lib.Ieee.{Float, neg}
use lib.ListN.{length, replicate}
use borrow.Author.Tests.{le-leb, lt-leb, eq-eqb, ne_eqb, leb-true, leb-false}
use Rattle.numbers.specs.Rounded.{f32}
use Rattle.vector.specs.Vector.{point}
use Rattle.ranges.specs.Range.{inside, leading, first_outside, farthest}
use Rattle.domain.specs.declared.Refusal.{Refusal}
use Rattle.domain.specs.Refusals.{check, refusal, first_refusal, roomy}
use Rattle.clearing.specs.Swept.{swept}
use Rattle.kd_tree.specs.Tree.{index_size, belongs}
use Rattle.nearest.specs.Scan.{Near, nearest}
use Rattle.nearest_points.specs.declared.Nearest.{Nearest}
use Rattle.nearest_points.specs.declared.Searched.{Searched}
use Rattle.nearest_points.specs.Found.{answer_of, nearest_of, Answers, checks_by, search_refusal, checked, nearest_refusal, numbers_in, Searches, Nears}

-- ---- a one-spot detail is small
module _ (p bad badSpot index words floats : ℕ) (one : badSpot ≤ 1) where
  small_cases : (a b c d e g : Bool) → leb (p / 3) 4096 ≡ c → leb (p / 3) bad ≡ d
      → (first_refusal (check a 1 0 ∷ check b 2 0 ∷ check c 3 0 ∷ check d 4 bad ∷ check e 4 (p / 3 + badSpot) ∷ check g 7 0 ∷ [])).detail ≤ 8192
  unfolding first_refusal
  small_cases false b c d e g hc hd = omega arith
  small_cases true false c d e g hc hd = omega arith
  small_cases true true false d e g hc hd = omega arith
  small_cases true true true false e g hc hd = let x : bad < p / 3 = leb-false (p / 3) bad hd in let y : p / 3 ≤ 4096 = leb-true (p / 3) 4096 hc in omega arith
  small_cases true true true true false g hc hd = let y : p / 3 ≤ 4096 = leb-true (p / 3) 4096 hc in omega arith
  small_cases true true true true true false hc hd = omega arith
  small_cases true true true true true true hc hd = omega arith

  small_detail : (first_refusal (checks_by p 3 bad badSpot index words floats)).detail ≤ 8192
  small_detail =
      small_cases (ltb 0 p) (eqb (p % 3) 0 && eqb (3 % 3) 0) (leb (p / 3) 4096) (leb (p / 3) bad) (leb (3 / 3) badSpot)
      (roomy (p / 3) words floats && leb (index_size (p / 3)) index) refl refl

one_outside : (x y z : Float) → first_outside farthest (x ∷ y ∷ z ∷ []) ≤ 1
unfolding first_outside leading
one_outside x y z = go (inside (neg farthest) farthest x) (inside (neg farthest) farthest y) (inside (neg farthest) farthest z)
  where
    go : (a b c : Bool) → cond a (suc (cond b (suc (cond c 1 0)) 0)) 0 / 3 ≤ 1
    go false b c = omega arith
    go true false c = omega arith
    go true true false = omega arith
    go true true true = omega arith

pub detail_small : (p bad index words floats : ℕ) (x y z : Float)
    → (first_refusal (checks_by p 3 bad (first_outside farthest (x ∷ y ∷ z ∷ [])) index words floats)).detail ≤ 8192
detail_small p bad index words floats x y z = small_detail p bad (first_outside farthest (x ∷ y ∷ z ∷ [])) index words floats (one_outside x y z)

-- a refusal in its own words
pub own_words : (f : Refusal) → Answers (answer_of f.answer f.detail) f
own_words f = record { answered = refl; detailed = refl }

-- ---- work slices
swept_yes : {A : Type 0} (v : A) {b : Bool} (xs : List A) {ys : List A} → b ≡ true → ys ≡ replicate (length xs) v → ys ≡ swept v b xs
unfolding swept
swept_yes v xs e h = rw (e) h

swept_no : {A : Type 0} (v : A) {b : Bool} (xs : List A) → b ≡ false → xs ≡ swept v b xs
unfolding swept
swept_no v xs e = rw (e)

-- ---- the refusals in turn
module _ (points spots : List Float) (index words : List ℕ) (floats : List Float) where
  abbrev pub early : Refusal
  early = search_refusal points spots (length index) (length words) (length floats)

  abbrev passes : Bool
  passes = checked points spots (length index) (length words) (length floats)

  module _ {r : Searched} (a : Answers r early) where
    pub zero_answer : r.answer ≡ 0 → early.answer ≡ 0
    zero_answer h = sym a.answered ∙ h

    yes : r.answer ≡ 0 → passes ≡ true
    yes h = eq-eqb early.answer 0 (zero_answer h)

    no : (r.answer ≡ 0 → ⊥) → passes ≡ false
    no h = ne_eqb early.answer 0 (λ e. h (a.answered ∙ e))

    refused_early : (found : ℕ) → (r.answer ≡ 0 → ⊥) → nearest_refusal points spots index (length words) (length floats) found ≡ early
    unfolding nearest_refusal
    refused_early found h = rw (no h)

    late : (found : ℕ) → r.answer ≡ 0 → nearest_refusal points spots index (length words) (length floats) found
        ≡ first_refusal (check (leb (length spots / 3) found) 13 0 ∷ check (belongs points index) 22 0 ∷ [])
    unfolding nearest_refusal
    late found h = rw (yes h)

    pub late_short : (found : ℕ) → r.answer ≡ 0 → found < length spots / 3 → nearest_refusal points spots index (length words) (length floats) found
        ≡ refusal 13 0
    unfolding first_refusal
    late_short found h l = late found h ∙ rw (lt-leb (length spots / 3) found l)

    pub late_foreign : (found : ℕ) → r.answer ≡ 0 → length spots / 3 ≤ found → belongs points index ≡ false
        → nearest_refusal points spots index (length words) (length floats) found ≡ refusal 22 0
    unfolding first_refusal
    late_foreign found h l e = late found h ∙ rw (le-leb (length spots / 3) found l, e)

    pub late_none : (found : ℕ) → r.answer ≡ 0 → length spots / 3 ≤ found → belongs points index ≡ true
        → nearest_refusal points spots index (length words) (length floats) found ≡ refusal 0 0
    unfolding first_refusal
    late_none found h l e = late found h ∙ rw (le-leb (length spots / 3) found l, e)

    -- ---- many spots
    answers_of : {q : Searched} (k : ℕ) (f : Refusal) → q ≡ answer_of k 0 → f ≡ refusal k 0 → Answers q f
    answers_of k f e g = record {
      answered = ap (λ (x : Searched). x.answer) e ∙ sym (ap (λ (x : Refusal). x.answer) g);
      detailed = ap (λ (x : Searched). x.detail) e ∙ sym (ap (λ (x : Refusal). x.detail) g);
    }

    module _ (found : List ℕ) where
      abbrev whole : Refusal
      whole = nearest_refusal points spots index (length words) (length floats) (length found)

      pub many_refused : (r.answer ≡ 0 → ⊥) → Searches points spots index found words floats r found words floats
      many_refused h = record {
        answers = subst⁻¹ (Answers r) (refused_early (length found) h) a;
        found_left = rw (ne_eqb r.answer 0 h);
        words_left = swept_no 0 words (no h);
        floats_left = swept_no (f32 0) floats (no h);
      }

      module _ (h : r.answer ≡ 0) {words' : List ℕ} {floats' : List Float} (ew : words' ≡ replicate (length words) 0)
          (ef : floats' ≡ replicate (length floats) (f32 0)) where
        pub many_left : {q : Searched} (k : ℕ) → (k ≡ 0 → ⊥) → q ≡ answer_of k 0 → whole ≡ refusal k 0
            → Searches points spots index found words floats q found words' floats'
        many_left {q} k n e g = record {
          answers = answers_of k whole e g;
          found_left = rw (ne_eqb q.answer 0 (λ z. n (sym (ap (λ (x : Searched). x.answer) e) ∙ z)));
          words_left = swept_yes 0 words (yes h) ew;
          floats_left = swept_yes (f32 0) floats (yes h) ef;
        }

        pub many_found : {q : Searched} {found' : List ℕ} → q ≡ answer_of 0 0 → whole ≡ refusal 0 0 → found' ≡ numbers_in points spots found
            → Searches points spots index found words floats q found' words' floats'
        many_found {q} e g n = record {
          answers = answers_of 0 whole e g;
          found_left = rw (eq-eqb q.answer 0 (ap (λ (x : Searched). x.answer) e)) n;
          words_left = swept_yes 0 words (yes h) ew;
          floats_left = swept_yes (f32 0) floats (yes h) ef;
        }

-- ---- one spot
module _ (points : List Float) (x y z : Float) (index words : List ℕ) (floats : List Float) {r : Searched}
    (a : Answers r (search_refusal points (x ∷ y ∷ z ∷ []) (length index) (length words) (length floats))) where
  abbrev spot : List Float
  spot = x ∷ y ∷ z ∷ []

  abbrev all : Refusal
  all = nearest_refusal points spot index (length words) (length floats) 1

  abbrev best : Near
  best = nearest points (length points / 3) (point x y z)

  of_answer : {q : Nearest} {k d p : ℕ} {l : Float} → q ≡ nearest_of k d p l → q.answer ≡ k
  of_answer e = ap (λ (n : Nearest). n.answer) e

  pub one_refused : {q : Nearest} → (r.answer ≡ 0 → ⊥) → q ≡ nearest_of r.answer r.detail 0 (f32 0) → Nears points x y z index words floats q words floats
  one_refused {q} h e =
      let n : eqb q.answer 0 ≡ false = ne_eqb q.answer 0 (λ w. h (sym (of_answer e) ∙ w)) in
      let f = refused_early points spot index words floats a 1 h in
      record {
        answered = of_answer e ∙ a.answered ∙ sym (ap (λ (w : Refusal). w.answer) f);
        detailed = ap (λ (w : Nearest). w.detail) e ∙ a.detailed ∙ sym (ap (λ (w : Refusal). w.detail) f);
        point_is = rw (n) (ap (λ (w : Nearest). w.point) e);
        distance_is = rw (n) (ap (λ (w : Nearest). w.distance) e);
        words_left = swept_no 0 words (no points spot index words floats a h);
        floats_left = swept_no (f32 0) floats (no points spot index words floats a h);
      }

  module _ (h : r.answer ≡ 0) {words' : List ℕ} {floats' : List Float} (ew : words' ≡ replicate (length words) 0)
      (ef : floats' ≡ replicate (length floats) (f32 0)) where
    pub one_foreign : {q : Nearest} → belongs points index ≡ false → q ≡ nearest_of 22 0 0 (f32 0) → Nears points x y z index words floats q words' floats'
    one_foreign {q} b e =
        let n : eqb q.answer 0 ≡ false = ne_eqb q.answer 0 (λ w. omega (arith, of_answer e, w)) in
        let f = late_foreign points spot index words floats a 1 h (omega arith) b in
        record {
          answered = of_answer e ∙ sym (ap (λ (w : Refusal). w.answer) f);
          detailed = ap (λ (w : Nearest). w.detail) e ∙ sym (ap (λ (w : Refusal). w.detail) f);
          point_is = rw (n) (ap (λ (w : Nearest). w.point) e);
          distance_is = rw (n) (ap (λ (w : Nearest). w.distance) e);
          words_left = swept_yes 0 words (yes points spot index words floats a h) ew;
          floats_left = swept_yes (f32 0) floats (yes points spot index words floats a h) ef;
        }

    pub one_found : {q : Nearest} {p : ℕ} {l : Float} → belongs points index ≡ true → q ≡ nearest_of 0 0 p l → record { distance = l; number = p } ≡ best
        → Nears points x y z index words floats q words' floats'
    one_found {q} b e g =
        let n : eqb q.answer 0 ≡ true = eq-eqb q.answer 0 (of_answer e) in
        let f = late_none points spot index words floats a 1 h (omega arith) b in
        record {
          answered = of_answer e ∙ sym (ap (λ (w : Refusal). w.answer) f);
          detailed = ap (λ (w : Nearest). w.detail) e ∙ sym (ap (λ (w : Refusal). w.detail) f);
          point_is = rw (n) (ap (λ (w : Nearest). w.point) e ∙ ap (λ (w : Near). w.number) g);
          distance_is = rw (n) (ap (λ (w : Nearest). w.distance) e ∙ ap (λ (w : Near). w.distance) g);
          words_left = swept_yes 0 words (yes points spot index words floats a h) ew;
          floats_left = swept_yes (f32 0) floats (yes points spot index words floats a h) ef;
        }
