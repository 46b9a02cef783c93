-- `laying::advanced_ball_pivoting` meets its contract. The loop's invariant: the first i radii have been laid, no
-- radius up to `upto` has a seed, and the first i marks are set. Assumes nothing.
use mathlib.Core.Path.{◌∙◌}
use native.Mathlib.Omega.{arith}
use Rattle.nearby.specs.Inner.Ready.{used_in_scene}
use Rattle.known_radii.proofs.Larger.{nothing_yet, known_nothing}
use Rattle.laying.proofs.Radii.{cover_start, between_radii, cover_step, cover_end}
use Rattle.laying.proofs.Marks.{marks_start, marks_step, marks_end}
use Rattle.laying.proofs.advanced_ball_pivoting.Goals as goal

pub is_flat-flat-requires : goal.is_flat-flat-requires
is_flat-flat-requires c = let g = c.requires.0 in (g.some, g.held.few, g.held.points_long, g.hashed.linked.ready.numbers)

pub last_of-largest-requires : goal.last_of-largest-requires
last_of-largest-requires c = c.requires.1

pub begin-c-requires : goal.begin-c-requires
begin-c-requires c = let g = c.requires.0 in
    record { some = g.some; few = g.held.few; long = g.held.work_long }

pub loop-i-init : goal.loop-i-init
loop-i-init c =
    let start = c in
    let a = start.args in (
      cover_start start.requires.0 c.begin-c.ensures.begins c.begin-c.ensures.only_in,
      nothing_yet a.s a.points.now
          (used_in_scene a.s c.begin-c.new.w),
      marks_start a.rule a.s a.points.now a.radii,
    )

pub offset_bounds-radii-i : goal.offset_bounds-radii-i
offset_bounds-radii-i c = omega (arith, c.loop-i-test.true, c.requires.1)

pub bounds-radii-i : goal.bounds-radii-i
bounds-radii-i c = omega (arith, c.loop-i-test.true, c.requires.1)

pub lay_one-laid-requires : goal.lay_one-laid-requires
lay_one-laid-requires c =
    let loop = c.loop-i in
    let is-flat = c.is_flat-flat in
    let start = c in
    let a = start.args in
    let l = loop in (
      between_radii l.invariant.0,
      λ h. known_nothing a.s a.points.now (used_in_scene a.s l.w) (c.is_known-known.ensures h) is-flat.ensures
          l.invariant.1,
      l.invariant.1,
    )

pub offset_bounds-marks-i : goal.offset_bounds-marks-i
offset_bounds-marks-i c =
    let loop-test = c.loop-i-test in
    let start = c in
    omega (arith, loop-test.true, start.requires.1)

pub bounds-marks-i : goal.bounds-marks-i
bounds-marks-i c =
    let loop-test = c.loop-i-test in
    let start = c in
    omega (arith, loop-test.true, start.requires.1)

pub loop-i-preserved : goal.loop-i-preserved
loop-i-preserved c =
    let lay-one = c.lay_one-laid in
    let loop-test = c.loop-i-test in
    let loop = c.loop-i in
    let start = c in
    let l = loop in
    let o = lay-one in
    let t = loop-test.true in
    let on = cover_step l.invariant.0 _ t (omega (arith, t, start.requires.1)) o.ensures.0 o.auto.faces in (
      on,
      o.ensures.1,
      marks_step l.marks on (omega (arith, t, start.requires.1)) (omega (arith, t, start.requires.1)) l.invariant.2,
    )

pub shape_of-faces : goal.shape_of-faces
shape_of-faces c = c.loop-i.invariant.0.face_words

pub shape_of-w : goal.shape_of-w
shape_of-w c = c.loop-i.invariant.0.words ∙ c.begin-c.auto.w

pub returns : goal.returns
returns c = (
  cover_end c.loop-i.invariant.0 c.loop-i-test.false,
  c.loop-i.invariant.0.searchable,
  marks_end c.loop-i.marks
      c.args.count c.loop-i.invariant.0.inside c.loop-i-test.false c.loop-i.invariant.2,
)
