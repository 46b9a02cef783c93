-- The loop of `sift`: what is left of a list leads to the whole. Assumes nothing.
use mathlib.Core.Path.{◌≡◌, refl, sym, ap, ◌∙◌}
use mathlib.Core.Bool.{Bool, true, false, not}
use mathlib.Core.List.{List, [], ◌∷◌, ◌++◌, append_assoc, append-nil}
use Prim.Native.Nat.{ℕ, suc, ◌+◌, ◌-◌, ◌≤◌, ◌<◌}
use native.Mathlib.Omega.{arith}
use lib.Dec.{eqb}
use lib.ListN.{length, take, drop, get_or, set, length-set, drop_of_length-le}
use lib.Seq.{take-suc-set, take-set-le, drop-set-lt, drop-cons, drop-drop, get_or-drop}
use Rattle.lists.specs.Members.{only}
use Rattle.lists.proofs.Members.{only_skip, only_take}
use Rattle.axis_orders.specs.Inner.Parted.{others, parted_but, NumbersSifted}

-- one element more at the end of what a list begins with
take_next : (l : List ℕ) (k v : ℕ) → k < length l → take (k + 1) (set l k v) ≡ take k l ++ (v ∷ [])
take_next l k v h = let e : k + 1 ≡ suc k = omega arith in ap (λ (n : ℕ). take n (set l k v)) e ∙ take-suc-set l k v h

-- what was stored is the next of those that pass, or none of them
module _ (test : ℕ → Bool) (whole rest l : List ℕ) (k v : ℕ) (leads : whole ≡ take k l ++ only test (v ∷ rest)) where
  stays : test v ≡ true → k < length l → whole ≡ take (k + 1) (set l k v) ++ only test rest
  stays t h =
      leads ∙ ap (λ (z : List ℕ). take k l ++ z) (only_take test v rest t) ∙ sym (append_assoc (take k l) (v ∷ []) (only test rest))
      ∙ ap (λ (z : List ℕ). z ++ only test rest) (sym (take_next l k v h))

  goes : test v ≡ false → whole ≡ take k (set l k v) ++ only test rest
  goes t = leads ∙ ap (λ (z : List ℕ). take k l ++ z) (only_skip test v rest t) ∙ ap (λ (z : List ℕ). z ++ only test rest)
      (sym (take-set-le k l k v (omega arith)))

-- ---- sifting: `front` is written to the list itself, behind what has been read
pub record Sifting (test : ℕ → Bool) (list₀ list work₀ work : List ℕ) (kept i : ℕ) : Type 0 where
  pub size : length list ≡ length list₀
  pub work_size : length work ≡ length work₀
  pub most : kept ≤ i
  pub inside : i ≤ length list₀
  pub unread : drop i list ≡ drop i list₀
  pub front : only test list₀ ≡ take kept list ++ only test (drop i list₀)
  pub aside : others test list₀ ≡ take (i - kept) work ++ others test (drop i list₀)

module _ {test : ℕ → Bool} {list₀ work₀ : List ℕ} where
  pub sift_start : Sifting test list₀ list₀ work₀ work₀ 0 0
  sift_start = record { size = refl; work_size = refl; most = omega arith; inside = omega arith; unread = refl; front = refl; aside = refl }

  module _ {list work : List ℕ} {kept i : ℕ} (s : Sifting test list₀ list work₀ work kept i) where
    pub sift_end : length list ≤ i → NumbersSifted test list₀ list work kept
    unfolding only
    sift_end h =
        let e : i ≡ length list₀ = omega (arith, s.size, s.inside) in
        let none : drop i list₀ ≡ [] = drop_of_length-le list₀ {i = i} (omega arith) in
        record {
          most = omega (arith, s.most);
          front = sym (s.front ∙ ap (λ (z : List ℕ). take kept list ++ only test z) none ∙ append-nil (take kept list));
          aside = ap (λ (n : ℕ). take (n - kept) work) (sym e) ∙ sym
              (s.aside ∙ ap (λ (z : List ℕ). take (i - kept) work ++ others test z) none ∙ append-nil (take (i - kept) work));
        }

    module _ (room : length list₀ ≤ length work₀) (l : i < length list) where
      -- the number that is read, and the slices with it stored
      abbrev here : ℕ
      here = get_or list i 0

      abbrev list' : List ℕ
      list' = set list kept here

      abbrev work' : List ℕ
      work' = set work (i - kept) here

      list_room : kept < length list
      list_room = omega (arith, s.most)

      work_room : i - kept < length work
      work_room = omega (arith, s.work_size, s.size, s.most)

      here_same : drop i list₀ ≡ here ∷ drop (i + 1) list₀
      here_same =
          let h : i < length list₀ = omega (arith, s.size) in
          let n : suc i ≡ i + 1 = omega arith in
          let z : i + 0 ≡ i = omega arith in
          let e : get_or list₀ i 0 ≡ here =
          sym (ap (λ (k : ℕ). get_or list k 0) (sym z) ∙ sym (get_or-drop i list 0 0) ∙ ap (λ (w : List ℕ). get_or w 0 0) s.unread ∙ get_or-drop i list₀ 0 0 ∙ ap
          (λ (k : ℕ). get_or list₀ k 0) z) in
          drop-cons list₀ i 0 h ∙ (λ k. e k ∷ drop (n k) list₀)

      on : {left : ℕ} → left ≤ i + 1 → only test list₀ ≡ take left list' ++ only test (drop (i + 1) list₀) → others test list₀ ≡ take (i + 1 - left) work'
          ++ others test (drop (i + 1) list₀)
          → Sifting test list₀ list' work₀ work' left (i + 1)
      on h f a = record {
        size = length-set list kept here ∙ s.size;
        work_size = length-set work (i - kept) here ∙ s.work_size;
        most = h;
        inside = omega (arith, s.size);
        unread = drop-set-lt (i + 1) list kept here (omega (arith, s.most)) ∙
            (let c : 1 + i ≡ i + 1 = omega arith in ap (λ (k : ℕ). drop k list) (sym c) ∙ more list ∙ ap (drop 1) s.unread ∙ sym (more list₀) ∙ ap
            (λ (k : ℕ). drop k list₀) c);
        front = f;
        aside = a;
      }
        where
          more : (w : List ℕ) → drop (1 + i) w ≡ drop 1 (drop i w)
          more w = let e : i + 1 ≡ 1 + i = omega arith in ap (λ (k : ℕ). drop k w) (sym e) ∙ sym (drop-drop 1 i w)

      leads_front : only test list₀ ≡ take kept list ++ only test (here ∷ drop (i + 1) list₀)
      leads_front = s.front ∙ ap (λ (z : List ℕ). take kept list ++ only test z) here_same

      leads_aside : others test list₀ ≡ take (i - kept) work ++ others test (here ∷ drop (i + 1) list₀)
      leads_aside = s.aside ∙ ap (λ (z : List ℕ). take (i - kept) work ++ others test z) here_same

      pub sift_keep : {b : Bool} → b ≡ test here → b ≡ true → Sifting test list₀ list' work₀ work' (kept + 1) (i + 1)
      sift_keep e t =
          let n : i - kept ≡ i + 1 - (kept + 1) = omega arith in
          on (omega (arith, s.most)) (stays test _ _ list kept here leads_front (sym e ∙ t) list_room)
          (goes (λ (x : ℕ). not (test x)) _ _ work (i - kept) here leads_aside (ap not (sym e ∙ t)) ∙ ap
          (λ (k : ℕ). take k work' ++ others test (drop (i + 1) list₀)) n)

      pub sift_leave : {b : Bool} → b ≡ test here → b ≡ false → Sifting test list₀ list' work₀ work' kept (i + 1)
      sift_leave e t =
          let n : i - kept + 1 ≡ i + 1 - kept = omega (arith, s.most) in
          on (omega (arith, s.most)) (goes test _ _ list kept here leads_front (sym e ∙ t))
          (stays (λ (x : ℕ). not (test x)) _ _ work (i - kept) here leads_aside (ap not (sym e ∙ t)) work_room ∙ ap
          (λ (k : ℕ). take k work' ++ others test (drop (i + 1) list₀)) n)

-- ---- an order parted, or left as it is
module _ (own axis : ℕ) (test : ℕ → Bool) (l : List ℕ) where
  pub parted_own : eqb own axis ≡ true → l ≡ parted_but own axis test l
  unfolding parted_but
  parted_own e = rw e

  pub parted_other : (l' w' l'' : List ℕ) (r : ℕ) → eqb own axis ≡ false → NumbersSifted test l l' w' r → length l' ≡ length l → l'' ≡ take r l'
      ++ take (length l' - r) w' → l'' ≡ parted_but own axis test l
  unfolding parted_but
  parted_other l' w' l'' r no_own s e k = rw no_own (k ∙ (λ i. s.front i ++ (ap (λ (n : ℕ). take (n - r) w') e ∙ s.aside) i))
