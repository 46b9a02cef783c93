-- Laws of the slices that the points are stored in: what a reader leaves that is carried through all lines
-- (`carried_all`). Assumes nothing.
use mathlib.Core.Path.{◌≡◌, refl, sym, ap, ◌∙◌, subst}
use mathlib.Core.List.{List, [], ◌∷◌, ◌++◌, map, append-nil, append_assoc}
use Prim.Native.Nat.{ℕ, zero, suc, ◌+◌, ◌*◌, ◌/◌, ◌≤◌, ◌<◌}
use native.Mathlib.Numerals.{add-one}
use native.Mathlib.Omega.{arith}
use native.Mathlib.Decide.{dec_lt}
use mathlib.Core.Logic.{dite}
use mathlib.Core.Bool.{Bool, true, false, cond}
use lib.Dec.{leb}
use lib.ListN.{length, take, drop, set, length-append}
use lib.Seq.{sets-eq, take_at, drop-append-add, drop-drop}
use lib.Ieee.{Float}
use Rattle.numerals.specs.Format.{parsed, malformed}
use Rattle.cloud_lines.specs.Format.{point_fields}
use Rattle.cloud.specs.Format.{PointLines, good, wrong, body}
use Rattle.cloud.specs.Answers.{numbers_of, coordinates_of, over_front}
use Rattle.cloud.specs.Inner.Ready.{Fitting, laid_out}
use Rattle.cloud_lines.specs.declared.line.Triple.{Triple}
use Rattle.cloud_lines.specs.declared.line.Point.{Point}
use Rattle.std.specs.Prelude.{Option, Some, None}
use Rattle.cloud_lines.specs.Reading.{Stepped}
use Rattle.cloud_lines.specs.Inner.Storing.{position_of, normal_of, placed, placed_of, StoredLines}
use Rattle.cloud_lines.proofs.Means.{step_got, step_not}
use Rattle.cloud_lines.proofs.Placing.{placed_fits, set_three}
use Rattle.numerals.proofs.Rows.{From, from_end, from_wrong, from_next}
use Rattle.cloud.proofs.Lines.{points_run, body_start, ahead_good}

pub put_three : (d : List Float) (at : ℕ) (x y z : Float) → at + 3 ≤ length d
    → set (set (set d at x) (at + 1) y) (at + 2) z ≡ take at d ++ (x ∷ y ∷ z ∷ []) ++ drop (at + 3) d
put_three d at x y z h =
    let two : at + 2 ≡ suc (at + 1) = omega arith in
    rw (two, add-one at) (sets-eq (x ∷ y ∷ z ∷ []) d at h)

-- ---- triples in front of a slice
flat_length : (ts : List Triple) → length (coordinates_of ts) ≡ 3 * length ts
unfolding coordinates_of
flat_length [] = refl
flat_length (t ∷ ts) = let h = flat_length ts in omega arith

flat_snoc : (ts : List Triple) (t : Triple) → coordinates_of (ts ++ (t ∷ [])) ≡ coordinates_of ts ++ numbers_of t
unfolding coordinates_of
flat_snoc [] t = refl
flat_snoc (u ∷ ts) t = ap (λ (l : List Float). u.x ∷ u.y ∷ u.z ∷ l) (flat_snoc ts t)

map_snoc : (part : Point → Triple) (ps : List Point) (p : Point) → map part (ps ++ (p ∷ [])) ≡ map part ps ++ (part p ∷ [])
map_snoc part [] p = refl
map_snoc part (q ∷ ps) p = ap (λ (l : List Triple). part q ∷ l) (map_snoc part ps p)

map_length : (part : Point → Triple) (ps : List Point) → length (map part ps) ≡ length ps
map_length part [] = refl
map_length part (p ∷ ps) = ap suc (map_length part ps)

-- one triple more behind those in front
over_next : (ts : List Triple) (t : Triple) (old : List Float) (i : ℕ) → length (coordinates_of ts) ≡ i
    → take i (over_front (coordinates_of ts) old) ++ numbers_of t ++ drop (i + 3) (over_front (coordinates_of ts) old)
    ≡ over_front (coordinates_of (ts ++ (t ∷ []))) old
unfolding over_front
over_next ts t old i e =
    let new = coordinates_of ts in
    let front : take i (new ++ drop (length new) old) ≡ new = take_at new (drop (length new) old) i e in
    let back : drop (i + 3) (new ++ drop (length new) old) ≡ drop (length new + 3) old =
    ap (λ (n : ℕ). drop (n + 3) (new ++ drop (length new) old)) (sym e) ∙ drop-append-add new (drop (length new) old) 3 ∙ drop-drop 3 (length new) old in
    let len : length (new ++ numbers_of t) ≡ length new + 3 = length-append new (numbers_of t) in
    rw (front, back, flat_snoc ts t, len)

-- ---- lists and lines of a known length
nil : (ps : List Point) → length ps ≡ 0 → ps ≡ []
nil [] e = refl
nil (p ∷ ps) e = absurd (omega (arith, e))

lines_length : PointLines → ℕ
lines_length (good ps) = length ps
lines_length (wrong line) = 0

-- ---- storing, point by point
module _ (s : List ℕ) (from count : ℕ) (points₀ normals₀ : List Float) where
  -- some points are stored, and the lines from `at` on are those of the others
  pub record Storing (f : Fitting s from count points₀ normals₀) (points normals : List Float) (at i : ℕ) : Type 0 where
    pub done : List Point
    pub left : List Point
    pub split : f.read ≡ done ++ left
    pub source : From points_run s at (good left)
    pub place : i ≡ 3 * length done
    pub points_are : points ≡ over_front (coordinates_of (map (λ p. p.position) done)) points₀
    pub normals_are : normals ≡ over_front (coordinates_of (map (λ p. p.normal) done)) normals₀

  module _ (f : Fitting s from count points₀ normals₀) where
    pub storing_start : Storing f points₀ normals₀ from 0
    unfolding coordinates_of over_front
    storing_start = record {
      done = [];
      left = f.read;
      split = refl;
      source = subst (From points_run s from) f.lines_good (body_start s from);
      place = refl;
      points_are = refl;
      normals_are = refl;
    }

    module _ (points normals : List Float) (at i : ℕ) (st : Storing f points normals at i) where
      -- all points are stored
      pub storing_end : i ≡ 3 * count
          → (points ≡ laid_out (λ p. p.position) (body (drop from s)) points₀) × (normals ≡ laid_out (λ p. p.normal) (body (drop from s)) normals₀)
      unfolding laid_out
      storing_end h =
          let lengths : length f.read ≡ length st.done + length st.left = ap length st.split ∙ length-append st.done st.left in
          let none : st.left ≡ [] = nil st.left (omega (arith, f.as_many, st.place, lengths, h)) in
          let all : f.read ≡ st.done = st.split ∙ ap (λ (l : List Point). st.done ++ l) none ∙ append-nil st.done in
          (rw (f.lines_good, all) st.points_are, rw (f.lines_good, all) st.normals_are)

      -- there is a line left, so its place is inside
      pub storing_inside : i < 3 * count → at < length s
      unfolding lines_length
      storing_inside h =
          let lengths : length f.read ≡ length st.done + length st.left = ap length st.split ∙ length-append st.done st.left in
          dite (dec_lt at (length s)) (λ l. l)
          (λ no. let over_front : length s ≤ at = omega (arith, no) in
          let none : good st.left ≡ good [] = from_end points_run s at (good st.left) st.source over_front in
          let few : length st.left ≡ 0 = ap lines_length none in
          absurd (omega (arith, f.as_many, st.place, lengths, h, few)))

      module _ (inside : at < length s) where
        pub storing_never : point_fields (drop at s) ≡ malformed → ⊥
        storing_never e =
            let w = from_wrong points_run s at (good st.left) st.source inside e in
            let z : ◌≡◌ {A = ℕ} 0 1 = cc in omega arith

        module _ (p : Point) (next : ℕ) (e : point_fields (drop at s) ≡ parsed p (drop next s)) where
          -- the point that was read is the first of those left
          first : (l : List Point) × ((st.left ≡ p ∷ l) × From points_run s next (good l))
          first =
              let n = from_next points_run s at (good st.left) st.source inside p next e in
              let a = ahead_good p n.0 st.left n.1.0 in
              (a.0, (a.1.1, subst (From points_run s next) a.1.0 n.1.1))

          pub storing_room : (i + 3 ≤ length points₀) × (i + 3 ≤ length normals₀)
          storing_room =
              let l = first in
              let count : length f.read ≡ length st.done + length st.left = ap length st.split ∙ length-append st.done st.left in
              let some : length st.left ≡ suc (length l.0) = ap length l.1.0 in
              let at_i = st.place in
              let a = f.points_fit in
              let b = f.normals_fit in
              (omega arith, omega arith)

          part_next : (part : Point → Triple) (old old₀ new : List Float) → old ≡ over_front (coordinates_of (map part st.done)) old₀
              → new ≡ take i old ++ numbers_of (part p) ++ drop (i + 3) old → new ≡ over_front (coordinates_of (map part (st.done ++ (p ∷ [])))) old₀
          part_next part old old₀ new was now =
              let ts = map part st.done in
              let len : length (coordinates_of ts) ≡ i = flat_length ts ∙ ap (λ (n : ℕ). 3 * n) (map_length part st.done) ∙ sym st.place in
              now ∙ ap (λ (l : List Float). take i l ++ numbers_of (part p) ++ drop (i + 3) l) was ∙ over_next ts (part p) old₀ i len
              ∙ ap (λ (l : List Triple). over_front (coordinates_of l) old₀) (sym (map_snoc part st.done p))

          pub storing_next : (points' normals' : List Float) → points' ≡ take i points ++ numbers_of p.position ++ drop (i + 3) points
              → normals' ≡ take i normals ++ numbers_of p.normal ++ drop (i + 3) normals → Storing f points' normals' next (i + 3)
          storing_next points' normals' ep en =
              let l = first in
              let len : length (st.done ++ (p ∷ [])) ≡ length st.done + 1 = length-append st.done (p ∷ []) in
              let at_i = st.place in
              record {
                done = st.done ++ (p ∷ []);
                left = l.0;
                split = st.split ∙ ap (λ (r : List Point). st.done ++ r) l.1.0 ∙ sym (append_assoc st.done (p ∷ []) l.0);
                source = l.1.1;
                place = omega arith;
                points_are = part_next (λ q. q.position) points points₀ points' st.points_are ep;
                normals_are = part_next (λ q. q.normal) normals normals₀ normals' st.normals_are en;
              }

-- ---- a reader that is carried from line to line stores the points of its lines
placed_length : (part : Point → Triple) (k : ℕ) (read : Option Point) (d : List Float) → length (placed_of part k read d) ≡ length d
unfolding placed_of placed
placed_length part k (Some p) d = go (leb (length d / 3) k)
  where
    go : (t : Bool) → length (cond t d (set (set (set d (3 * k) (part p).x) (3 * k + 1) (part p).y) (3 * k + 2) (part p).z)) ≡ length d
    go true = refl
    go false = set_three d (3 * k) (3 * k + 1) (3 * k + 2) (part p).x (part p).y (part p).z
placed_length part k None d = refl

-- three numbers at place 3k, where there is room
placed_three : (k : ℕ) (t : Triple) (d : List Float) → 3 * k + 3 ≤ length d
    → placed k t d ≡ take (3 * k) d ++ numbers_of t ++ drop (3 * k + 3) d
placed_three k t d h =
    sym (placed_fits k t d (omega (arith, h))) ∙ put_three d (3 * k) t.x t.y t.z h

module _ (s : List ℕ) (from count : ℕ) (points₀ normals₀ : List Float) where
  stored_length : (k at : ℕ) (points normals : List Float) → StoredLines s from k at points₀ normals₀ points normals
      → (length points ≡ length points₀) × (length normals ≡ length normals₀)
  unfolding StoredLines
  stored_length zero at points normals (a, (p, n)) = (ap length p, ap length n)
  stored_length (suc k) at points normals (b, (ps, (ns, (read, (before, (step, (p, n))))))) =
      let lengths = stored_length k b ps ns before in (
        ap length p ∙ placed_length position_of k read ps ∙ lengths.0,
        ap length n ∙ placed_length normal_of k read ns ∙ lengths.1,
      )

  module _ (f : Fitting s from count points₀ normals₀) where
    -- one line more
    storing_line : (k b at : ℕ) (ps ns points normals : List Float) (read : Option Point) → k < count
        → Storing s from count points₀ normals₀ f ps ns b (3 * k) → length ps ≡ length points₀ → length ns ≡ length normals₀
        → Stepped s b read at → points ≡ placed_of position_of k read ps → normals ≡ placed_of normal_of k read ns
        → Storing s from count points₀ normals₀ f points normals at (3 * k + 3)
    unfolding placed_of
    storing_line k b at ps ns points normals None few st lp ln step p n =
        let inside = storing_inside s from count points₀ normals₀ f ps ns b (3 * k) st (omega (arith, few)) in
        absurd (storing_never s from count points₀ normals₀ f ps ns b (3 * k) st inside (step_not s b at step))
    storing_line k b at ps ns points normals (Some q) few st lp ln step p n =
        let inside = storing_inside s from count points₀ normals₀ f ps ns b (3 * k) st (omega (arith, few)) in
        let got = step_got s b q at step in
        let room = storing_room s from count points₀ normals₀ f ps ns b (3 * k) st inside q at got in
        storing_next s from count points₀ normals₀ f ps ns b (3 * k) st inside q at got points normals
        (p ∙ placed_three k q.position ps (omega (arith, room.0, lp)))
        (n ∙ placed_three k q.normal ns (omega (arith, room.1, ln)))

    carried : (k at : ℕ) (points normals : List Float) → k ≤ count → StoredLines s from k at points₀ normals₀ points normals
        → Storing s from count points₀ normals₀ f points normals at (3 * k)
    unfolding StoredLines
    carried zero at points normals few (a, (p, n)) =
        rw (a, p, n) (storing_start s from count points₀ normals₀ f)
    carried (suc k) at points normals few (b, (ps, (ns, (read, (before, (step, (p, n))))))) =
        let lengths = stored_length k b ps ns before in
        let so_far = carried k b ps ns (omega (arith, few)) before in
        let more = storing_line k b at ps ns points normals read (omega (arith, few)) so_far lengths.0 lengths.1 step p n in
        subst (λ (i : ℕ). Storing s from count points₀ normals₀ f points normals at i) (omega arith) more

    pub carried_all : (at : ℕ) (points normals : List Float) → StoredLines s from count at points₀ normals₀ points normals
        → (points ≡ laid_out (λ p. p.position) (body (drop from s)) points₀) × (normals ≡ laid_out (λ p. p.normal) (body (drop from s)) normals₀)
    carried_all at points normals stored =
        storing_end s from count points₀ normals₀ f points normals at (3 * count) (carried count at points normals (omega arith) stored) refl
