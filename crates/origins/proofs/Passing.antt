-- One pass over the faces with the face that brought in each point finds the parents. Assumes nothing.
use Prim.Native.Nat.{ℕ, zero, suc, ◌+◌, ◌-◌, ◌≤◌, ◌<◌, max}
use mathlib.Core.Path.{◌≡◌, refl, sym, ap, ◌∙◌, subst}
use mathlib.Core.Logic.{◌⊎◌, ⊎_elim, ◌≢◌}
use mathlib.Core.Bool.{Bool, true, false}
use mathlib.Core.List.{List, [], ◌∷◌}
use native.Mathlib.Omega.{arith}
use native.Mathlib.Decide.{dec_lt}
use lib.Dec.{eqb}
use borrow.Author.Tests.{eqb-true, eq-eqb, ne_eqb}
use lib.ListN.{length, get_or, set, take, replicate, length-set, length-replicate, get_or-replicate, get_or-eq_default}
use lib.Seq.{take-suc, get_or-set_same, get_or-set_other}
use Rattle.lists.specs.Lists.{bit, count, any}
use Rattle.lists.proofs.Bools.{either}
use Rattle.lists.proofs.Counts.{bit_true, true_any, count_append}
use Rattle.patch.specs.Lay.{edge, Face, State}
use Rattle.patch.specs.Shape.{touches, no_face}
use Rattle.patch.specs.Fair.{Shaped}
use Rattle.patch.proofs.Edges.{Off, touches_which, untouched, laid_v1, laid_v2}
use Rattle.orders.specs.Order.{face_at}
use Rattle.origins.specs.Pass.{is_seed, parent_at, brought_after, parents_from, parents_pass}
use Rattle.origins.specs.Inner.Following.{find, parent_of}
use Rattle.origins.proofs.Running.{Running}
use Rattle.origins.proofs.Turning.{Found, owned, before, began, earlier_runs, third_untouched, three_new, seed_parent, parent_latest}

-- ---- the pass by its cases
module _ (k : ℕ) (brought : List ℕ) (f : Face) where
  abbrev at_seed : List ℕ
  at_seed = set (set (set brought f.a (k + 1)) f.b (k + 1)) f.c (k + 1)

  seed_at : get_or brought f.a 0 ≡ 0 → (parent_at k brought f ≡ k) × (brought_after k brought f ≡ at_seed)
  unfolding parent_at brought_after
  seed_at h = let e : is_seed brought f ≡ true = eq-eqb (get_or brought f.a 0) 0 h in (rw e, rw e)

  other_at : get_or brought f.a 0 ≢ 0
      → (parent_at k brought f ≡ max (get_or brought f.a 0) (get_or brought f.b 0) - 1) × (brought_after k brought f ≡ set brought f.c (k + 1))
  unfolding parent_at brought_after
  other_at h = let e : is_seed brought f ≡ false = ne_eqb (get_or brought f.a 0) 0 h in (rw e, rw e)

  three_same : (x : ℕ) → Off x f → get_or at_seed x 0 ≡ get_or brought x 0
  three_same x o =
      get_or-set_other (set (set brought f.a (k + 1)) f.b (k + 1)) f.c x (k + 1) 0 o.not_c
      ∙ get_or-set_other (set brought f.a (k + 1)) f.b x (k + 1) 0 o.not_b
      ∙ get_or-set_other brought f.a x (k + 1) 0 o.not_a

  -- a point that is set stays set
  stays : (br : List ℕ) (i x : ℕ) → x < length br → get_or br x 0 ≡ k + 1 → get_or (set br i (k + 1)) x 0 ≡ k + 1
  stays br i x b h = ⊎_elim
      (λ (t : eqb x i ≡ true). let e = eqb-true x i t in ap (λ (z : ℕ). get_or (set br i (k + 1)) z 0) e ∙ get_or-set_same br i (k + 1) 0 (omega arith))
      (λ (t : eqb x i ≡ false). get_or-set_other br i x (k + 1) 0 (λ e. differ x i t e) ∙ h)
      (either (eqb x i))
    where
      differ : (u v : ℕ) → eqb u v ≡ false → u ≡ v → ⊥
      differ u v t e = let z : eqb u v ≡ true = eq-eqb u v e in let w : bit (eqb u v) ≡ 0 = ap bit t in let y : bit (eqb u v) ≡ 1 = ap bit z in omega arith

  here : (br : List ℕ) (i x : ℕ) → x < length br → x ≡ i → get_or (set br i (k + 1)) x 0 ≡ k + 1
  here br i x b e = ap (λ (z : ℕ). get_or (set br i (k + 1)) z 0) e ∙ get_or-set_same br i (k + 1) 0 (omega arith)

  three_set : (x : ℕ) → x < length brought → touches x f ≡ true → get_or at_seed x 0 ≡ k + 1
  three_set x b t =
      let one = set brought f.a (k + 1) in
      let two = set one f.b (k + 1) in
      let l1 = length-set brought f.a (k + 1) in
      let l2 = length-set one f.b (k + 1) in
      ⊎_elim
      (λ (u : eqb x f.a ≡ true). stays two f.c x (omega arith) (stays one f.b x (omega arith) (here brought f.a x b (eqb-true x f.a u))))
      (⊎_elim
      (λ (u : eqb x f.b ≡ true). stays two f.c x (omega arith) (here one f.b x (omega arith) (eqb-true x f.b u)))
      (λ (u : eqb x f.c ≡ true). here two f.c x (omega arith) (eqb-true x f.c u)))
      (touches_which x f t)

  three_long : length at_seed ≡ length brought
  three_long =
      let one = set brought f.a (k + 1) in
      let two = set one f.b (k + 1) in
      omega (arith, length-set brought f.a (k + 1), length-set one f.b (k + 1), length-set two f.c (k + 1))

count_take : (p : Face → Bool) (m : ℕ) (gs : List Face) → count p (take m gs) ≤ count p gs
count_take p zero gs = omega arith
count_take p (suc m) [] = omega arith
count_take p (suc m) (g ∷ gs) = let ih = count_take p m gs in omega arith

-- ---- over the faces of a patch of n points
module _ (s : State) (shape : Shaped s) (running : Running s) (n : ℕ) (inside : (x : ℕ) → any (touches x) s.faces ≡ true → x < n) where
  abbrev fs : List Face
  fs = s.faces

  abbrev at : ℕ → Face
  at i = face_at fs i

  abbrev owner : ℕ → ℕ
  owner x = find (touches x) fs

  abbrev touched : ℕ → ℕ → ℕ
  touched x k = count (touches x) (take k fs)

  -- before face k
  record Marked (k : ℕ) (brought : List ℕ) : Type 0 where
    pub wide : length brought ≡ n
    pub new : (x : ℕ) → touched x k ≡ 0 → get_or brought x 0 ≡ 0
    pub old : (x : ℕ) → 1 ≤ touched x k → get_or brought x 0 ≡ suc (owner x)

  blank_marked : Marked 0 (replicate n 0)
  blank_marked = record {
    wide = length-replicate n 0;
    new = λ x h. zero_at x (dec_lt x n);
    old = λ x h. absurd (omega arith);
  }
    where
      zero_at : (x : ℕ) → Dec (x < n) → ◌≡◌ {A = ℕ} (get_or (replicate n 0) x 0) 0
      zero_at x (yes l) = get_or-replicate n x 0 0 l
      zero_at x (no l) = let e = length-replicate {A = ℕ} n 0 in get_or-eq_default (replicate n 0) 0 {n = x} (omega arith)

  module _ (k : ℕ) (b : k < length fs) where
    abbrev f : Face
    f = at k

    one_more : (x : ℕ) → touched x (suc k) ≡ touched x k + bit (touches x f)
    one_more x = ap (count (touches x)) (take-suc fs k no_face b) ∙ count_append (touches x) (take k fs) (f ∷ []) ∙ (omega arith)

    -- the first face with x
    first_here : (x : ℕ) → touched x k ≡ 0 → touches x f ≡ true → owner x ≡ k
    first_here x h t =
        let o = owned s shape running k b x t in
        go o (dec_lt (owner x) k)
      where
        go : (o : Found (touches x) fs k) → Dec (owner x < k) → owner x ≡ k
        go o (yes l) = let w = before s shape running x k (omega arith) l o.passes in absurd (omega arith)
        go o (no l) = omega (arith, o.low)

    -- x is a point of the cloud
    below : (x : ℕ) → 1 ≤ touched x (suc k) → x < n
    below x h =
        let m = count_take (touches x) (suc k) fs in
        inside x (true_any (touches x) fs (omega arith))

    none_here : (x : ℕ) → bit (touches x f) ≡ 0 → touches x f ≡ false
    none_here x h = ⊎_elim (λ (t : touches x f ≡ true). let o : bit (touches x f) ≡ 1 = ap bit t in absurd (omega arith)) (λ (t : touches x f ≡ false). t)
        (either (touches x f))

    module _ (brought : List ℕ) (m : Marked k brought) where
      -- a seed: all three points are new
      seed_marked : touched f.a k ≡ 0 → touched f.b k ≡ 0 → touched f.c k ≡ 0 → Marked (suc k) (at_seed k brought f)
      seed_marked a0 b0 c0 = record {
        wide = three_long k brought f ∙ m.wide;
        new = λ x h.
            let e = one_more x in
            three_same k brought f x (untouched x f (none_here x (omega arith))) ∙ m.new x (omega arith);
        old = λ x h. old_seed x h (either (touches x f));
      }
        where
          fresh : (x : ℕ) → touches x f ≡ true → touched x k ≡ 0
          fresh x t = ⊎_elim
              (λ (u : eqb x f.a ≡ true). ap (λ (z : ℕ). touched z k) (eqb-true x f.a u) ∙ a0)
              (⊎_elim
              (λ (u : eqb x f.b ≡ true). ap (λ (z : ℕ). touched z k) (eqb-true x f.b u) ∙ b0)
              (λ (u : eqb x f.c ≡ true). ap (λ (z : ℕ). touched z k) (eqb-true x f.c u) ∙ c0))
              (touches_which x f t)

          old_seed : (x : ℕ) → 1 ≤ touched x (suc k) → (touches x f ≡ true) ⊎ (touches x f ≡ false) → get_or (at_seed k brought f) x 0 ≡ suc (owner x)
          old_seed x h w = ⊎_elim
              (λ (t : touches x f ≡ true).
              let e = first_here x (fresh x t) t in
              three_set k brought f x (omega (arith, below x h, m.wide)) t ∙ (omega arith))
              (λ (t : touches x f ≡ false).
              let z : bit (touches x f) ≡ 0 = ap bit t in
              let e = one_more x in
              three_same k brought f x (untouched x f t) ∙ m.old x (omega arith))
              w

      -- any other face: only the third point is new
      other_marked : 1 ≤ touched f.a k → 1 ≤ touched f.b k → touched f.c k ≡ 0 → Marked (suc k) (set brought f.c (k + 1))
      other_marked a1 b1 c0 = record {
        wide = length-set brought f.c (k + 1) ∙ m.wide;
        new = λ x h.
            let e = one_more x in
            let o = untouched x f (none_here x (omega arith)) in
            get_or-set_other brought f.c x (k + 1) 0 o.not_c ∙ m.new x (omega arith);
        old = λ x h. old_other x h (dec_lt 0 (touched x k));
      }
        where
          clash : (x y : ℕ) → x ≡ y → 1 ≤ touched y k → touched x k ≡ 0 → ⊥
          clash x y e l z = let g : touched x k ≡ touched y k = ap (λ (w : ℕ). touched w k) e in omega arith

          third : (x : ℕ) → touched x k ≡ 0 → touches x f ≡ true → x ≡ f.c
          third x z t = ⊎_elim
              (λ (u : eqb x f.a ≡ true). absurd (clash x f.a (eqb-true x f.a u) a1 z))
              (⊎_elim
              (λ (u : eqb x f.b ≡ true). absurd (clash x f.b (eqb-true x f.b u) b1 z))
              (λ (u : eqb x f.c ≡ true). eqb-true x f.c u))
              (touches_which x f t)

          old_other : (x : ℕ) → 1 ≤ touched x (suc k) → Dec (0 < touched x k) → get_or (set brought f.c (k + 1)) x 0 ≡ suc (owner x)
          old_other x h (yes l) = get_or-set_other brought f.c x (k + 1) 0 (λ e. clash f.c x (sym e) l c0) ∙ m.old x l
          old_other x h (no l) =
              let e = one_more x in
              let z : touched x k ≡ 0 = omega arith in
              let t : touches x f ≡ true = bit_true {b = touches x f} (omega arith) in
              let o = first_here x z t in
              here k brought f brought f.c x (omega (arith, below x h, m.wide)) (third x z t) ∙ (omega arith)

      -- the parent is found, and the points are marked
      step : (parent_at k brought f ≡ parent_of fs k) × Marked (suc k) (brought_after k brought f)
      step = ⊎_elim
          (λ (t : get_or s.seed_flags k false ≡ true).
          let z = three_new (take k fs) f ((shape.each k b).seed_new t) in
          let e = seed_at k brought f (m.new f.a z.0) in
          (e.0 ∙ sym (seed_parent s shape running k b t), subst (Marked (suc k)) (sym e.1) (seed_marked z.0 z.1 z.2)))
          (λ (t : get_or s.seed_flags k false ≡ false).
          let r = earlier_runs s shape running k b f.a f.b (began s shape running k b t) in
          let u = laid_v1 (edge f.a f.b) (take k fs) in
          let v = laid_v2 (edge f.a f.b) (take k fs) in
          let a1 : 1 ≤ touched f.a k = omega arith in
          let b1 : 1 ≤ touched f.b k = omega arith in
          let oa = m.old f.a a1 in
          let ob = m.old f.b b1 in
          let e = other_at k brought f (λ z. omega arith) in
          let p = parent_latest s shape running k b in
          (e.0 ∙ (omega arith), subst (Marked (suc k)) (sym e.1) (other_marked a1 b1 (third_untouched s shape running k b t))))
          (either (get_or s.seed_flags k false))

  -- the faces from number k on
  pass_at : (gs : List Face) (k : ℕ) (brought : List ℕ) → Marked k brought → k + length gs ≡ length fs → ((i : ℕ) → i < length gs → face_at gs i ≡ at (k + i))
      → (i : ℕ) → i < length gs → get_or (parents_from k brought gs) i 0 ≡ parent_of fs (k + i)
  unfolding parents_from
  pass_at [] k brought m l h i b = absurd (omega arith)
  pass_at (g ∷ gs) k brought m l h zero b =
      let kb : k < length fs = omega arith in
      let z : k ≡ k + 0 = omega arith in
      let e : g ≡ at k = h 0 b ∙ ap at (sym z) in
      ap (parent_at k brought) e ∙ (step k kb brought m).0 ∙ ap (parent_of fs) z
  pass_at (g ∷ gs) k brought m l h (suc i) b =
      let kb : k < length fs = omega arith in
      let z : k ≡ k + 0 = omega arith in
      let e : g ≡ at k = h 0 (omega arith) ∙ ap at (sym z) in
      let up : suc k ≡ k + 1 = omega arith in
      let q : k + 1 + i ≡ k + suc i = omega arith in
      let m' : Marked (k + 1) (brought_after k brought g) = subst (λ (j : ℕ). Marked j (brought_after k brought g)) up
      (subst (λ (x : Face). Marked (suc k) (brought_after k brought x)) (sym e) (step k kb brought m).1) in
      pass_at gs (k + 1) (brought_after k brought g) m' (omega arith) (λ j c. h (suc j) (omega arith) ∙ ap at (index j)) i (omega arith) ∙ ap (parent_of fs) q
    where
      index : (j : ℕ) → k + suc j ≡ k + 1 + j
      index j = omega arith

  pass_long : (gs : List Face) (k : ℕ) (brought : List ℕ) → length (parents_from k brought gs) ≡ length gs
  unfolding parents_from
  pass_long [] k brought = refl
  pass_long (g ∷ gs) k brought = ap suc (pass_long gs (k + 1) (brought_after k brought g))

  -- the pass finds the parents
  pub pass_parents : (i : ℕ) → i < length fs → get_or (parents_pass n fs) i 0 ≡ parent_of fs i
  pass_parents i b = let z : 0 + i
      ≡ i = omega arith in pass_at fs 0 (replicate n 0) blank_marked (omega arith) (λ j c. let y : j ≡ 0 + j = omega arith in ap at y) i b ∙ ap (parent_of fs) z

  pub pass_length : length (parents_pass n fs) ≡ length fs
  pass_length = pass_long fs 0 (replicate n 0)
