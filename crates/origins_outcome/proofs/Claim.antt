-- Of what comes back of the multi-radius path holds the one claim, turned or not. Assumes nothing.
use Prim.Native.Nat.{ℕ, ◌≤◌, ◌<◌}
use mathlib.Core.Path.{◌≡◌, refl, sym, ap, ◌∙◌, subst}
use mathlib.Core.Bool.{Bool, true, false, cond}
use mathlib.Core.List.{List, [], ◌++◌}
use native.Mathlib.Omega.{arith}
use lib.Dec.{eqb}
use lib.ListN.{length, get_or, drop, replicate}
use lib.Ieee.{Float}
use borrow.Author.Tests.{eq-eqb, ne_eqb}
use Rattle.numbers.specs.Rounded.{f32}
use Rattle.domain.specs.Refusals.{reconstruct_refusal}
use Rattle.domain.specs.declared.Refusal.{Refusal}
use Rattle.settings.specs.declared.BallPivotingConfig.{BallPivotingConfig}
use Rattle.clearing.specs.Swept.{swept}
use Rattle.lists.specs.Lists.{any}
use Rattle.patch.specs.Lay.{Face, State, seeds_of}
use Rattle.patch.specs.Shape.{touches}
use Rattle.patch.specs.Fair.{Shaped}
use Rattle.patch.specs.View.{flat}
use Rattle.origins.specs.Origins.{Trace, pairs, parents_in, places_in}
use Rattle.origins.specs.Turned.{turned, Traced, OneWay}
use Rattle.origins.proofs.Shapes.{turned_length, turned_inside}
use Rattle.origins.proofs.Pairs.{parents_read, places_read}
use Rattle.ball_pivoting.specs.Reconstruct.{Found, point_count, radii_of, laid_of, laid, found, reason, refused, accepted}
use Rattle.ball_pivoting.specs.Outcome.{faces_in}
use Rattle.ball_pivoting.specs.Unsplit.{NoTriangle}
use Rattle.ball_pivoting.specs.declared.Patch.{Patch}
use Rattle.ball_pivoting.proofs.Reasons.{not_zero, reason_is}
use Rattle.ball_pivoting.proofs.Found.{found_laid, shape_of, touched_inside}
use Rattle.ball_pivoting.proofs.Outcome.{reconstruct_early}
use Rattle.origins_outcome.specs.Call.{trace_in, origins_of, faces_as, over, turns_plain, delivered_with, reconstructed_with, slice_after}
use Rattle.origins_outcome.specs.Outcome.{ReturnedWithOrigins, ReconstructsWithOrigins}
use Rattle.origins_outcome.proofs.Slices.{faces_in_flat}
use Rattle.origins_outcome.proofs.Traces.{state_same, traced_so, one_way_so, parents_as_places, origins_laid}
use Rattle.origins_outcome.proofs.Delivered.{not_both, after_accepted}
use Rattle.origins_outcome.proofs.Hanging.{hangs_laid, hangs_turned}

-- ---- an answer of 0: what was found comes back
module _ (why : ℕ) (named : NoTriangle why) (f : Found) (rs : List Float) (turn : Bool) (room places : ℕ) where
  by_way : (plain : Bool) (p : Patch) → p ≡ cond plain (refused 18 0) (accepted f rs) → p.answer ≡ 0 → p ≡ accepted f rs
  unfolding refused
  by_way true p is good = absurd (let k : 18 ≡ 0 = sym (ap (λ (q : Patch). q.answer) is) ∙ good in omega arith)
  by_way false p is good = is

  by_fit : (more : Bool) (p : Patch) → p ≡ cond more (refused 9 0) (cond (turns_plain turn rs) (refused 18 0) (accepted f rs)) → p.answer ≡ 0 → p
      ≡ accepted f rs
  unfolding refused
  by_fit true p is good = absurd (let k : 9 ≡ 0 = sym (ap (λ (q : Patch). q.answer) is) ∙ good in omega arith)
  by_fit false p is good = by_way (turns_plain turn rs) p is good

  by_some : (none : Bool) (p : Patch) → p
      ≡ cond none (refused why 0) (cond (over (length f.faces) room places) (refused 9 0) (cond (turns_plain turn rs) (refused 18 0) (accepted f rs)))
      → p.answer ≡ 0 → p ≡ accepted f rs
  unfolding refused
  by_some true p is good = absurd (not_zero why named (sym (ap (λ (q : Patch). q.answer) is) ∙ good))
  by_some false p is good = by_fit (over (length f.faces) room places) p is good

  delivered_is : (p : Patch) → p ≡ delivered_with why f rs turn room places → p.answer ≡ 0 → p ≡ accepted f rs
  unfolding delivered_with
  delivered_is p is good = by_some (eqb (length f.faces) 0) p is good

-- ---- the claim, turned or not
module _ (n : ℕ) (s : State) (t : Trace) (same : t.state ≡ s) (noted : Traced s.faces s.seed_flags t.parents) (shaped : Shaped s)
    (within : (x : ℕ) → any (touches x) s.faces ≡ true → x < n)
    (one : OneWay (turned t.parents s.faces) s.seed_flags (length s.faces) (seeds_of s) s.looks s.pivots) where
  pub returned : (turn : Bool) (fs : List Face) (parents places : List ℕ) (F S looks pivots : ℕ) → fs ≡ cond turn (turned t.parents s.faces) s.faces
      → parents ≡ t.parents → places ≡ t.places
      → F ≡ length s.faces → S ≡ seeds_of s → looks ≡ s.looks → pivots ≡ s.pivots → ReturnedWithOrigins n s t turn fs parents places F S looks pivots
  unfolding turned
  returned true fs parents places F S looks pivots e a b m k l v = record {
    state_is = same;
    faces_are = e;
    number_is = m;
    seeds_are = k;
    looks_are = l;
    pivots_are = v;
    parents_are = a;
    places_are = b;
    traced = rw a noted;
    hangs = rw (e, a, m) (λ i x o. (noted.earlier i x o, hangs_turned s t.parents shaped noted i x o));
    shape = rw (e, m, k, l, v) one.shape;
    inside = rw e (turned_inside (λ i. get_or t.parents i 0) n s.faces within);
    one_way = λ q. rw (e, m, k, l, v) one;
  }
  returned false fs parents places F S looks pivots e a b m k l v = record {
    state_is = same;
    faces_are = e;
    number_is = m;
    seeds_are = k;
    looks_are = l;
    pivots_are = v;
    parents_are = a;
    places_are = b;
    traced = rw a noted;
    hangs = rw (e, a, m) (λ i x o. (noted.earlier i x o, hangs_laid s t.parents shaped noted i x o));
    shape = rw (e, m, k, l, v) shaped;
    inside = rw e within;
    one_way = λ q. absurd (not_both (sym q));
  }

module _ (c : BallPivotingConfig) (points : List Float) (turn : Bool) (faces origins : List ℕ) (p : Patch) (faces' origins' : List ℕ) where
  as_many : (b : Bool) → length (faces_as b c points) ≡ length (found c points).faces
  unfolding faces_as turned
  as_many true = turned_length (λ i. get_or (trace_in c points).parents i 0) 0 (found c points).faces
  as_many false = refl

  as_laid : (b : Bool) → found c points ≡ laid (laid_of c points) → faces_as b c points
      ≡ cond b (turned (trace_in c points).parents (laid_of c points).faces) (laid_of c points).faces
  unfolding faces_as laid
  as_laid b e = ap (λ (g : Found). cond b (turned (trace_in c points).parents g.faces) g.faces) e

  pub claimed : p ≡ delivered_with (reason c points) (found c points) (radii_of c points) turn (length faces) (length origins)
      → faces' ≡ slice_after p (flat (faces_as turn c points)) faces → origins' ≡ slice_after p (origins_of c points) origins → p.answer ≡ 0 → 0 < p.radii_count
      → ReturnedWithOrigins (point_count points) (laid_of c points) (trace_in c points) turn (faces_in p.faces faces')
      (parents_in p.faces origins') (places_in p.faces origins') p.faces p.seeds p.looks p.pivots
  unfolding accepted laid
  claimed is after after-origins good some =
      let d : p ≡ accepted (found c points) (radii_of c points) = delivered_is (reason c points) (reason_is c points) (found c points) (radii_of c points) turn
      (length faces) (length origins) p is good in
      let there : radii_of c points ≡ [] → ⊥ = λ q. omega (arith, some, ap (λ (q : Patch). q.radii_count) d, ap length q) in
      let f : found c points ≡ laid (laid_of c points) = found_laid c points (radii_of c points) refl there in
      let ps = (trace_in c points).parents in
      let qs = (trace_in c points).places in
      let count : p.faces ≡ length (found c points).faces = ap (λ (q : Patch). q.faces) d in
      let number : p.faces ≡ length (laid_of c points).faces = count ∙ ap (λ (g : Found). length g.faces) f in
      let parents-many : p.faces ≡ length ps = number ∙ sym (traced_so c points).long in
      let stored : faces' ≡ flat (faces_as turn c points)
      ++ drop (length (flat (faces_as turn c points))) faces = after ∙ after_accepted p (flat (faces_as turn c points)) faces good in
      let noted : origins' ≡ pairs ps qs ++ drop (length (pairs ps qs)) origins =
      after-origins ∙ after_accepted p (origins_of c points) origins good ∙ ap (λ (l : List ℕ). l ++ drop (length l) origins) (origins_laid c points there) in
      let front : faces_in p.faces faces' ≡ cond turn (turned ps (laid_of c points).faces) (laid_of c points).faces =
      ap (λ (k : ℕ). faces_in k faces') (count ∙ sym (as_many turn)) ∙ ap (faces_in (length (faces_as turn c points))) stored
      ∙ faces_in_flat (faces_as turn c points) (drop (length (flat (faces_as turn c points))) faces) ∙ as_laid turn f in
      let a : parents_in p.faces origins'
      ≡ ps = ap (λ (k : ℕ). parents_in k origins') parents-many ∙ ap (parents_in (length ps)) noted ∙ parents_read ps qs (drop (length (pairs ps qs)) origins)
      (parents_as_places c points) in
      let b : places_in p.faces origins'
      ≡ qs = ap (λ (k : ℕ). places_in k origins') parents-many ∙ ap (places_in (length ps)) noted ∙ places_read ps qs (drop (length (pairs ps qs)) origins)
      (parents_as_places c points) in
      returned (point_count points) (laid_of c points) (trace_in c points) (state_same c points) (traced_so c points) (shape_of c points) (touched_inside c points)
      (one_way_so c points)
      turn (faces_in p.faces faces') (parents_in p.faces origins') (places_in p.faces origins') p.faces p.seeds p.looks
      p.pivots front a b number
      (ap (λ (q : Patch). q.seeds) d ∙ ap (λ (g : Found). g.seeds) f)
      (ap (λ (q : Patch). q.looks) d ∙ ap (λ (g : Found). g.looks) f)
      (ap (λ (q : Patch). q.pivots) d ∙ ap (λ (g : Found). g.pivots) f)

-- ---- the result, turned away or taken
module _ (points normals : List Float) (c : BallPivotingConfig) (turn : Bool) (faces origins words : List ℕ) (floats : List Float) (r : Refusal)
    (e : r ≡ reconstruct_refusal points normals c (length words) (length floats)) where
  pub turned_away : (p : Patch) → p ≡ refused r.answer r.detail → (r.answer ≡ 0 → ⊥)
      → ReconstructsWithOrigins points normals c turn faces origins words floats p faces origins words floats
  unfolding reconstructed_with swept slice_after refused
  turned_away p is bad =
      let early : r.answer ≤ 7 = subst (λ (q : Refusal). q.answer ≤ 7) (sym e) (reconstruct_early points normals c (length words) (length floats)) in
      let not_nine : r.answer ≡ 9 → ⊥ = λ q. omega arith in
      record {
        result = rw (sym e, ne_eqb r.answer 0 bad) is;
        faces_after_lem = rw (is, ne_eqb r.answer 0 bad, ne_eqb r.answer 9 not_nine);
        origins_after = rw (is, ne_eqb r.answer 0 bad, ne_eqb r.answer 9 not_nine);
        words_after = rw (sym e, ne_eqb r.answer 0 bad);
        floats_after = rw (sym e, ne_eqb r.answer 0 bad);
        claim = λ q some. absurd (bad (sym (ap (λ (x : Patch). x.answer) is) ∙ q));
      }

  pub taken : (p : Patch) (faces' origins' words' : List ℕ) (floats' : List Float) → r.answer ≡ 0
      → (p ≡ delivered_with (reason c points) (found c points) (radii_of c points) turn (length faces) (length origins))
      × (faces' ≡ slice_after p (flat (faces_as turn c points)) faces) × (origins' ≡ slice_after p (origins_of c points) origins)
      → words' ≡ replicate (length words) 0 → floats' ≡ replicate (length floats) (f32 0)
      → ReconstructsWithOrigins points normals c turn faces origins words floats p faces' origins' words' floats'
  unfolding reconstructed_with swept
  taken p faces' origins' words' floats' good d zeros zero-floats = record {
    result = rw (sym e, eq-eqb r.answer 0 good) d.0;
    faces_after_lem = d.1;
    origins_after = d.2;
    words_after = rw (sym e, eq-eqb r.answer 0 good) zeros;
    floats_after = rw (sym e, eq-eqb r.answer 0 good) zero-floats;
    claim = claimed c points turn faces origins p faces' origins' d.0 d.1 d.2;
  }
