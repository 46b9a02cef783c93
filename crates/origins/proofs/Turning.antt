-- Every parent comes first and has the pivoted edge the same way, and in the turned patch every edge that lies in two
-- faces runs once each way. Assumes nothing.
use Prim.Native.Nat.{ℕ, zero, suc, ◌+◌, ◌≤◌, ◌<◌, max}
use mathlib.Core.Path.{◌≡◌, refl, sym, ap, ap₂, ◌∙◌}
use mathlib.Core.Logic.{◌⊎◌, inl, inr, ⊎_elim}
use mathlib.Core.Bool.{Bool, true, false, not}
use mathlib.Core.List.{List, [], ◌∷◌}
use native.Mathlib.Omega.{arith}
use native.Mathlib.Decide.{dec_lt}
use lib.ListN.{length, get_or, take}
use lib.Seq.{take-suc, take-length}
use Rattle.lists.specs.Lists.{bit, count, any}
use Rattle.patch.specs.Lay.{edge, Face, State}
use Rattle.patch.specs.Shape.{touches, has, no_face, new_points}
use Rattle.patch.specs.Fair.{Shaped}
use Rattle.lists.proofs.Bools.{either}
use Rattle.lists.proofs.Counts.{bit_le, bit_true, any_true, any_false, true_any, count_append, count_mono}
use Rattle.patch.proofs.Edges.{touches_v1, touches_v2, Distinct, ab_of, bc_of, ca_of, laid_v1, laid_v2, has_congr, key_same}
use Rattle.orders.specs.Order.{face_at}
use Rattle.orders.proofs.Sums.{sum, sum_ext}
use Rattle.origins.specs.Sides.{looks_out, looks_in}
use Rattle.origins.specs.Turned.{runs, turned_face, turned_from}
use Rattle.origins.specs.Inner.Following.{find, parent_of}
use Rattle.origins.proofs.Directed.{has_runs, swapped_runs, Is, runs_which, runs_first, runs_has}
use Rattle.origins.proofs.Looking.{in_not_out, other_in}
use Rattle.origins.proofs.Running.{Running}
use Rattle.origins.proofs.Shapes.{turned_lies}

-- ---- the first that passes
find_yes : (p : Face → Bool) (f : Face) (fs : List Face) → p f ≡ true → find p (f ∷ fs) ≡ 0
unfolding find
find_yes p f fs h = rw (h, find)

find_no : (p : Face → Bool) (f : Face) (fs : List Face) → p f ≡ false → find p (f ∷ fs) ≡ suc (find p fs)
unfolding find
find_no p f fs h = rw (h, find)

pub record Found (p : Face → Bool) (fs : List Face) (i : ℕ) : Type 0 where
  pub low : find p fs ≤ i
  pub passes : p (face_at fs (find p fs)) ≡ true

pub found : (p : Face → Bool) (fs : List Face) (i : ℕ) → i < length fs → p (face_at fs i) ≡ true → Found p fs i
found p [] i l h = absurd (omega arith)
found p (f ∷ fs) zero l h = record { low = rw (find_yes p f fs h) (omega arith); passes = rw (find_yes p f fs h) h }
found p (f ∷ fs) (suc i) l h = ⊎_elim
    (λ (t : p f ≡ true). record { low = rw (find_yes p f fs t) (omega arith); passes = rw (find_yes p f fs t) t })
    (λ (t : p f ≡ false). let r = found p fs i
    (omega arith) h in record { low = rw (find_no p f fs t) (omega (arith, r.low)); passes = rw (find_no p f fs t) r.passes })
    (either (p f))

-- ---- counts by place
sum_step : (f : ℕ → ℕ) (m n : ℕ) → m ≤ n → sum f m ≤ sum f n
sum_step f m zero h = let e : m ≡ 0 = omega arith in rw e (omega arith)
sum_step f m (suc n) h = go (dec_lt n m) (λ k. sum_step f m n k)
  where
    go : Dec (n < m) → (m ≤ n → sum f m ≤ sum f n) → sum f m ≤ f n + sum f n
    go (yes k) ih = let e : m ≡ suc n = omega arith in rw e (omega arith)
    go (no k) ih = let i = ih (omega arith) in omega arith

take_sum : (p : Face → Bool) (fs : List Face) (m : ℕ) → m ≤ length fs → count p (take m fs) ≡ sum (λ i. bit (p (face_at fs i))) m
take_sum p fs zero h = refl
take_sum p fs (suc m) h =
    let ih = take_sum p fs m (omega arith) in
    ap (count p) (take-suc fs m no_face h) ∙ count_append p (take m fs) (face_at fs m ∷ []) ∙ (omega arith)

sum_front : (f : ℕ → ℕ) (n : ℕ) → sum f (suc n) ≡ f 0 + sum (λ i. f (suc i)) n
sum_front f zero = refl
sum_front f (suc n) = let ih = sum_front f n in omega arith

sum_pick : (f : ℕ → ℕ) (p m : ℕ) → p < m → f p ≤ sum f m
sum_pick f p zero l = absurd (omega arith)
sum_pick f p (suc m) l = go (dec_lt p m) (λ k. sum_pick f p m k)
  where
    go : Dec (p < m) → (p < m → f p ≤ sum f m) → f p ≤ f m + sum f m
    go (yes k) ih = let i = ih k in omega arith
    go (no k) ih = let e : p ≡ m = omega arith in let g : f p ≡ f m = ap f e in omega arith

sum_under : (f g : ℕ → ℕ) → ((i : ℕ) → f i ≤ g i) → (m : ℕ) → sum f m ≤ sum g m
sum_under f g h zero = omega arith
sum_under f g h (suc m) = let ih = sum_under f g h m in let k = h m in omega arith

-- only p counts in g, and f is at most g: only p counts in f
only : (f g : ℕ → ℕ) → ((i : ℕ) → f i ≤ g i) → (p m : ℕ) → p < m → g p ≡ 1 → sum g m ≡ 1 → sum f m ≡ f p
only f g h p zero l a b = absurd (omega arith)
only f g h p (suc m) l a b = go (dec_lt p m) (λ k c. only f g h p m k a c)
  where
    go : Dec (p < m) → (p < m → sum g m ≡ 1 → sum f m ≡ f p) → f m + sum f m ≡ f p
    go (yes k) ih = let s = sum_pick g p m k in let u = h m in let i = ih k (omega arith) in omega arith
    go (no k) ih =
        let e : p ≡ m = omega arith in
        let x : f p ≡ f m = ap f e in
        let y : g p ≡ g m = ap g e in
        let u = sum_under f g h m in
        omega arith

-- a face that passes, by place
some_place : (p : Face → Bool) (fs : List Face) (m : ℕ) → 1 ≤ sum (λ i. bit (p (face_at fs i))) m → (j : ℕ) × (j < m) × (p (face_at fs j) ≡ true)
some_place p fs zero h = absurd (omega arith)
some_place p fs (suc m) h = ⊎_elim
    (λ (t : p (face_at fs m) ≡ true). (m, omega arith, t))
    (λ (t : p (face_at fs m) ≡ false). let z : bit (p (face_at fs m))
    ≡ 0 = ap bit t in let r = some_place p fs m (omega arith) in (r.0, omega (arith, r.1), r.2))
    (either (p (face_at fs m)))

-- ---- what the shape says of a face
new_bit : (b : Bool) → bit (not b) ≡ 1 → b ≡ false
new_bit true h = absurd (omega arith)
new_bit false h = refl

module _ (earlier : List Face) (f : Face) where
  abbrev new : ℕ → ℕ
  new x = bit (not (any (touches x) earlier))

  new_untouched : (x : ℕ) → new x ≡ 1 → count (touches x) earlier ≡ 0
  new_untouched x h = any_false (touches x) earlier (new_bit (any (touches x) earlier) h)

  touched_old : (x : ℕ) → 1 ≤ count (touches x) earlier → new x ≡ 0
  touched_old x h = ap (λ (b : Bool). bit (not b)) (true_any (touches x) earlier h)

  pub three_new : new_points earlier f ≡ 3 → (count (touches f.a) earlier ≡ 0) × (count (touches f.b) earlier ≡ 0) × (count (touches f.c) earlier ≡ 0)
  unfolding new_points
  three_new h =
      let a = bit_le (not (any (touches f.a) earlier)) in
      let b = bit_le (not (any (touches f.b) earlier)) in
      let c = bit_le (not (any (touches f.c) earlier)) in
      (new_untouched f.a (omega arith), new_untouched f.b (omega arith), new_untouched f.c (omega arith))

  third_new : new_points earlier f ≡ 1 → 1 ≤ count (touches f.a) earlier → 1 ≤ count (touches f.b) earlier → count (touches f.c) earlier ≡ 0
  unfolding new_points
  third_new h a b =
      let p = touched_old f.a a in
      let q = touched_old f.b b in
      new_untouched f.c (omega arith)

module _ (s : State) (shape : Shaped s) (running : Running s) where
  abbrev fs : List Face
  fs = s.faces

  abbrev at : ℕ → Face
  at i = face_at fs i

  abbrev flag : ℕ → Bool
  flag i = get_or s.seed_flags i false

  abbrev parent : ℕ → ℕ
  parent = parent_of fs

  module _ (i : ℕ) (b : i < length fs) where
    distinct : Distinct (at i)
    distinct = let d = (shape.each i b).different in record { ab = d.0; bc = d.1; ca = d.2 }

    in_fs : i ≤ length fs
    in_fs = omega arith

    pub earlier_runs : (x y : ℕ) → 1 ≤ count (runs x y) (take i fs) → 1 ≤ count (has (edge x y)) (take i fs)
    earlier_runs x y h = omega (arith, count_mono (runs x y) (has (edge x y)) (runs_has x y) (take i fs))

    -- a seed is its own parent
    pub seed_parent : flag i ≡ true → parent i ≡ i
    unfolding parent_of
    seed_parent t = go (dec_lt (find first fs) i)
      where
        first : Face → Bool
        first = runs (at i).a (at i).b

        hit : Found first fs i
        hit = found first fs i b (runs_first (at i))

        go : Dec (find first fs < i) → find first fs ≡ i
        go (yes l) =
            let o : bit (first (at (find first fs))) ≡ 1 = ap bit hit.passes in
            let k = sum_pick (λ j. bit (first (at j))) (find first fs) i l in
            let e = take_sum first fs i in_fs in
            let m = earlier_runs (at i).a (at i).b (omega arith) in
            let v = laid_v1 (edge (at i).a (at i).b) (take i fs) in
            let n = (three_new (take i fs) (at i) ((shape.each i b).seed_new t)).0 in
            absurd (omega arith)
        go (no l) = omega (arith, hit.low)

    pub began : flag i ≡ false → 1 ≤ count (runs (at i).a (at i).b) (take i fs)
    began t = any_true (runs (at i).a (at i).b) (take i fs) (running.begins i b t)

    -- any other face's parent comes earlier, and has its first edge, the pivoted one, the same way
    pub other_parent : flag i ≡ false → (parent i < i) × (runs (at i).a (at i).b (at (parent i)) ≡ true)
    unfolding parent_of
    other_parent t =
        let first = runs (at i).a (at i).b in
        let e = take_sum first fs i in_fs in
        let j = some_place first fs i (omega (arith, began t)) in
        let f = found first fs j.0 (omega (arith, j.1)) j.2 in
        (omega (arith, f.low, j.1), f.passes)

    pub third_untouched : flag i ≡ false → count (touches (at i).c) (take i fs) ≡ 0
    third_untouched t =
        let m = earlier_runs (at i).a (at i).b (began t) in
        let v = laid_v1 (edge (at i).a (at i).b) (take i fs) in
        let w = laid_v2 (edge (at i).a (at i).b) (take i fs) in
        third_new (take i fs) (at i) ((shape.each i b).other_new t) (omega arith) (omega arith)

    -- an edge both of whose points earlier faces have is the first one, and the face no seed
    brought : (x y : ℕ) → runs x y (at i) ≡ true → 1 ≤ count (touches x) (take i fs) → 1 ≤ count (touches y) (take i fs) → (flag i ≡ false)
        × Is x y (ab_of (at i))
    brought x y r hx hy = go (either (flag i)) (runs_which x y (at i) r)
      where
        touch : ℕ → ℕ
        touch z = count (touches z) (take i fs)

        clash : {z w : ℕ} → z ≡ w → 1 ≤ touch z → touch w ≡ 0 → ⊥
        clash {z} {w} e l k = let g : touch z ≡ touch w = ap touch e in omega arith

        go : (flag i ≡ true) ⊎ (flag i ≡ false) → Is x y (ab_of (at i)) ⊎ (Is x y (bc_of (at i)) ⊎ Is x y (ca_of (at i))) → (flag i ≡ false)
            × Is x y (ab_of (at i))
        go (inl t) (inl w) = absurd (clash w.from hx (three_new (take i fs) (at i) ((shape.each i b).seed_new t)).0)
        go (inl t) (inr (inl w)) = absurd (clash w.from hx (three_new (take i fs) (at i) ((shape.each i b).seed_new t)).1)
        go (inl t) (inr (inr w)) = absurd (clash w.from hx (three_new (take i fs) (at i) ((shape.each i b).seed_new t)).2)
        go (inr t) (inl w) = (t, w)
        go (inr t) (inr (inl w)) = absurd (clash w.to hy (third_untouched t))
        go (inr t) (inr (inr w)) = absurd (clash w.from hx (third_untouched t))

    shared : (x y : ℕ) → runs x y (at i) ≡ true → 1 ≤ count (has (edge x y)) (take i fs) → (flag i ≡ false) × Is x y (ab_of (at i))
    shared x y r h = brought x y r (omega (arith, laid_v1 (edge x y) (take i fs))) (omega (arith, laid_v2 (edge x y) (take i fs)))

  -- ---- the turned patch, by place
  abbrev inward : ℕ → Bool
  inward = looks_in parent

  abbrev face_of_lem : ℕ → Face
  face_of_lem i = turned_face (inward i) (at i)

  abbrev laid : ℕ → ℕ → ℕ → ℕ
  laid x y m = sum (λ i. bit (has (edge x y) (at i))) m

  abbrev goes : ℕ → ℕ → ℕ → ℕ
  goes x y m = sum (λ i. bit (runs x y (face_of_lem i))) m

  turned_runs : (o : Bool) (f : Face) (x y : ℕ) → Distinct f → bit (runs x y (turned_face o f)) + bit (runs y x (turned_face o f)) ≡ bit (has (edge x y) f)
  turned_runs false f x y d = sym (has_runs f d x y)
  turned_runs true f x y d = let e = ap bit (swapped_runs f x y) in let g = ap bit (swapped_runs f y x) in omega (arith, has_runs f d x y)

  both : (x y m : ℕ) → m ≤ length fs → goes x y m + goes y x m ≡ laid x y m
  both x y zero h = refl
  both x y (suc m) h = let ih = both x y m (omega arith) in let t = turned_runs (inward m) (at m) x y (distinct m h) in omega arith

  few : (x y m : ℕ) → m ≤ length fs → laid x y m ≤ 2
  few x y m h =
      let all : count (has (edge x y)) fs ≤ 2 = ⊎_elim
      (λ (t : any (has (edge x y)) fs ≡ true). (shape.one_or_two (edge x y) t).1)
      (λ (t : any (has (edge x y)) fs ≡ false). let z = any_false (has (edge x y)) fs t in omega arith)
      (either (any (has (edge x y)) fs)) in
      let e : count (has (edge x y)) fs
      ≡ laid x y (length fs) = ap (count (has (edge x y))) (sym (take-length fs)) ∙ take_sum (has (edge x y)) fs (length fs) (omega arith) in
      let s = sum_step (λ i. bit (has (edge x y) (at i))) m (length fs) h in
      omega arith

  turned_under : (o : Bool) (f : Face) (x y : ℕ) → bit (runs x y (turned_face o f)) ≤ bit (has (edge x y) f)
  turned_under o f x y = ⊎_elim
      (λ (t : runs x y (turned_face o f) ≡ true). let z : bit (has (edge x y) f)
      ≡ 1 = ap bit (go o t) in let u = bit_le (runs x y (turned_face o f)) in omega arith)
      (λ (t : runs x y (turned_face o f) ≡ false). let z : bit (runs x y (turned_face o f)) ≡ 0 = ap bit t in omega arith)
      (either (runs x y (turned_face o f)))
    where
      go : (o : Bool) → runs x y (turned_face o f) ≡ true → has (edge x y) f ≡ true
      go false t = runs_has x y f t
      go true t = sym (has_congr (edge y x) (edge x y) (key_same (edge y x) (edge x y) (omega arith)) f) ∙ runs_has y x f (sym (swapped_runs f x y) ∙ t)

  turned_bit : (o : Bool) (f : Face) (x y : ℕ) → Distinct f → runs x y f ≡ true → bit (runs x y (turned_face o f)) ≡ bit (not o)
  turned_bit false f x y d h = ap bit h
  turned_bit true f x y d h =
      let a = has_runs f d x y in
      let b = bit_le (has (edge x y) f) in
      let c : bit (runs x y f) ≡ 1 = ap bit h in
      ap bit (swapped_runs f x y) ∙ (omega arith)

  -- the second face that has an edge is turned against the first
  second : (x y m : ℕ) (b : m < length fs) → flag m ≡ false → Is x y (ab_of (at m)) → runs x y (at m) ≡ true → laid x y m ≡ 1 → goes x y (suc m) ≡ 1
  second x y m b t w r one =
      let p = parent m in
      let q = other_parent m b t in
      let pb : p < length fs = omega (arith, q.0) in
      let along : runs x y (at p) ≡ true = ap₂ (λ (u v : ℕ). runs u v (at p)) w.from w.to ∙ q.1 in
      let o = only (λ i. bit (runs x y (face_of_lem i))) (λ i. bit (has (edge x y) (at i))) (λ i. turned_under (inward i) (at i) x y) p m q.0
      (ap bit (runs_has x y (at p) along)) one in
      let e = turned_bit (inward p) (at p) x y (distinct p pb) along in
      let f = turned_bit (inward m) (at m) x y (distinct m b) r in
      let g : bit (inward m) ≡ bit (not (inward p)) = ap bit (other_in parent m q.0 ∙ against_in p) in
      let u = against (inward p) in
      let v = against (inward m) in
      omega arith
    where
      against : (b : Bool) → bit (not b) + bit b ≡ 1
      against true = refl
      against false = refl

      not_not : (a b : Bool) → a ≡ not b → b ≡ not a
      not_not a true e = ap not (sym e)
      not_not a false e = ap not (sym e)

      against_in : (p : ℕ) → looks_out parent p ≡ not (inward p)
      against_in p = not_not (inward p) (looks_out parent p) (in_not_out parent p)

  once : (x y m : ℕ) → m ≤ length fs → laid x y m ≡ 2 → goes x y m ≡ 1
  once x y zero h e = absurd (omega arith)
  once x y (suc m) h e = ⊎_elim
      (λ (t : has (edge x y) (at m) ≡ true).
      let o : bit (has (edge x y) (at m)) ≡ 1 = ap bit t in
      let one : laid x y m ≡ 1 = omega arith in
      let there = both x y m (omega arith) in
      let back = both y x m (omega arith) in
      let one' : laid y x m ≡ 1 = omega arith in
      ⊎_elim
      (λ (r : runs x y (at m) ≡ true).
      let k = take_sum (has (edge x y)) fs m (omega arith) in
      let w = shared m h x y r (omega arith) in
      second x y m h w.0 w.1 r one)
      (λ (r : runs x y (at m) ≡ false).
      let z : bit (runs x y (at m)) ≡ 0 = ap bit r in
      let a = has_runs (at m) (distinct m h) x y in
      let r' : runs y x (at m) ≡ true = bit_true {b = runs y x (at m)} (omega arith) in
      let k = take_sum (has (edge y x)) fs m (omega arith) in
      let w = shared m h y x r' (omega arith) in
      let n = second y x m h w.0 w.1 r' one' in
      let all = both x y (suc m) h in
      omega arith)
      (either (runs x y (at m))))
      (λ (t : has (edge x y) (at m) ≡ false).
      let o : bit (has (edge x y) (at m)) ≡ 0 = ap bit t in
      let r = turned_runs (inward m) (at m) x y (distinct m h) in
      let ih = once x y m (omega arith) (omega arith) in
      omega arith)
      (either (has (edge x y) (at m)))

  -- ---- as a list
  by_place : (p : Face → Bool) (k : ℕ) (gs : List Face) → count p (turned_from parent k gs)
      ≡ sum (λ i. bit (p (turned_face (inward (k + i)) (face_at gs i)))) (length gs)
  unfolding turned_from
  by_place p k [] = refl
  by_place p k (g ∷ gs) =
      let ih = by_place p (suc k) gs in
      let f = sum_front (λ i. bit (p (turned_face (inward (k + i)) (face_at (g ∷ gs) i)))) (length gs) in
      let z : inward k ≡ inward (k + 0) = let e : k ≡ k + 0 = omega arith in ap inward e in
      let here : bit (p (turned_face (inward k) g)) ≡ bit (p (turned_face (inward (k + 0)) g)) = ap (λ (o : Bool). bit (p (turned_face o g))) z in
      let rest = sum_ext (λ i. bit (p (turned_face (inward (suc k + i)) (face_at gs i)))) (λ i. bit (p (turned_face (inward (k + suc i)) (face_at gs i))))
      (λ i. let e : suc k + i ≡ k + suc i = omega arith in ap (λ (j : ℕ). bit (p (turned_face (inward j) (face_at gs i)))) e) (length gs) in
      omega arith

  turned_place : (p : Face → Bool) → count p (turned_from parent 0 fs) ≡ sum (λ i. bit (p (face_of_lem i))) (length fs)
  turned_place p = by_place p 0 fs ∙ sum_ext (λ i. bit (p (turned_face (inward (0 + i)) (at i)))) (λ i. bit (p (face_of_lem i)))
      (λ i. let e : 0 + i ≡ i = omega arith in ap (λ (j : ℕ). bit (p (turned_face (inward j) (at i)))) e) (length fs)

  -- ---- for code that keeps with each entry the face that pushed it: only one earlier face has the pivoted edge
  two_places : (f : ℕ → ℕ) (j p m : ℕ) → j < p → p < m → f j + f p ≤ sum f m
  two_places f j p m l k =
      let a = sum_pick f j p l in
      let b = sum_step f (suc p) m k in
      omega arith

  pub parent_only : (i j : ℕ) → i < length fs → flag i ≡ false → j < i → has (edge (at i).a (at i).b) (at j) ≡ true → j ≡ parent i
  parent_only i j b t l h =
      let x = (at i).a in
      let y = (at i).b in
      let p = parent i in
      let q = other_parent i b t in
      let f : ℕ → ℕ = λ k. bit (has (edge x y) (at k)) in
      let fj : f j ≡ 1 = ap bit h in
      let fp : f p ≡ 1 = ap bit (runs_has x y (at p) q.1) in
      let fi : f i ≡ 1 = ap bit (runs_has x y (at i) (runs_first (at i))) in
      let w = few x y (suc i) b in
      go f fj fp fi w (dec_lt j p) (dec_lt p j) q.0
    where
      go : (f : ℕ → ℕ) → f j ≡ 1 → f (parent i) ≡ 1 → f i ≡ 1 → f i + sum f i ≤ 2 → Dec (j < parent i) → Dec (parent i < j) → parent i < i → j ≡ parent i
      go f fj fp fi w (yes c) d pl = let s = two_places f j (parent i) i c pl in absurd (omega arith)
      go f fj fp fi w (no c) (yes d) pl = let s = two_places f (parent i) j i d l in absurd (omega arith)
      go f fj fp fi w (no c) (no d) pl = omega arith

  -- ---- for code that looks at the faces only once they are laid: the parent is the later of the two faces that brought in the first two points
  pub owned : (i : ℕ) → i < length fs → (x : ℕ) → touches x (at i) ≡ true → Found (touches x) fs i
  owned i b x t = found (touches x) fs i b t

  -- the face that brought in x comes before p: some earlier face has x
  pub before : (x p : ℕ) → p ≤ length fs → find (touches x) fs < p → touches x (at (find (touches x) fs)) ≡ true → 1 ≤ count (touches x) (take p fs)
  before x p l h t =
      let o : bit (touches x (at (find (touches x) fs))) ≡ 1 = ap bit t in
      let k = sum_pick (λ j. bit (touches x (at j))) (find (touches x) fs) p h in
      let e = take_sum (touches x) fs p l in
      omega arith

  abbrev pub owner : ℕ → ℕ
  owner x = find (touches x) fs

  latest : (p x y : ℕ) → owner x ≤ p → owner y ≤ p → (owner x < p → owner y < p → ⊥) → p ≡ max (owner x) (owner y)
  latest p x y a b h = go (owner x) (owner y) a b h (dec_lt (owner x) p) (dec_lt (owner y) p)
    where
      go : (u v : ℕ) → u ≤ p → v ≤ p → (u < p → v < p → ⊥) → Dec (u < p) → Dec (v < p) → p ≡ max u v
      go u v a b h (yes c) (yes d) = absurd (h c d)
      go u v a b h (yes c) (no d) = omega arith
      go u v a b h (no c) d = omega arith

  pub parent_latest : (i : ℕ) → i < length fs → parent i ≡ max (owner (at i).a) (owner (at i).b)
  parent_latest i b = ⊎_elim
      (λ (t : flag i ≡ true).
      let x = (at i).a in
      let y = (at i).b in
      let ox = owned i b x (touches_v1 (ab_of (at i)) (at i) (runs_has x y (at i) (runs_first (at i)))) in
      let oy = owned i b y (touches_v2 (ab_of (at i)) (at i) (runs_has x y (at i) (runs_first (at i)))) in
      seed_parent i b t ∙ latest i x y ox.low oy.low (λ c d.
      let k = before x i (omega arith) c ox.passes in
      let n = (three_new (take i fs) (at i) ((shape.each i b).seed_new t)).0 in
      omega arith))
      (λ (t : flag i ≡ false).
      let x = (at i).a in
      let y = (at i).b in
      let p = parent i in
      let q = other_parent i b t in
      let pb : p < length fs = omega (arith, q.0) in
      let h = runs_has x y (at p) q.1 in
      let ox = owned p pb x (touches_v1 (edge x y) (at p) h) in
      let oy = owned p pb y (touches_v2 (edge x y) (at p) h) in
      latest p x y ox.low oy.low (λ c d.
      let w = brought p pb x y q.1 (before x p (omega arith) c ox.passes) (before y p (omega arith) d oy.passes) in
      let g = other_parent p pb w.0 in
      let same_way : runs x y (at (parent p)) ≡ true = ap₂ (λ (u v : ℕ). runs u v (at (parent p))) w.1.from w.1.to ∙ g.1 in
      let e = parent_only i (parent p) b t (omega (arith, q.0, g.0)) (runs_has x y (at (parent p)) same_way) in
      omega (arith, g.0)))
      (either (flag i))

  -- ---- the theorem: an edge that lies in two faces runs once each way
  pub turned_once : (x y : ℕ) → count (has (edge x y)) (turned_from parent 0 fs) ≡ 2 → (count (runs x y) (turned_from parent 0 fs) ≡ 1)
      × (count (runs y x) (turned_from parent 0 fs) ≡ 1)
  turned_once x y h =
      let d = ap (count (has (edge x y))) (sym (take-length fs)) ∙ take_sum (has (edge x y)) fs (length fs) (omega arith) in
      let e = turned_lies parent (edge x y) 0 fs in
      let a = turned_place (runs x y) in
      let b = turned_place (runs y x) in
      let o = once x y (length fs) (omega arith) (omega arith) in
      let c = both x y (length fs) (omega arith) in
      (omega arith, omega arith)
