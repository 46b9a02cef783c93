-- `ask_at` meets its contract. Assumes nothing.
use Rattle.nearby.specs.Inner.Ready.{used_in_scene}
use Rattle.known_radii.proofs.Larger.{silent_nothing}
use Rattle.known_radii.proofs.ask_at.Goals as goal

pub is_seedless_to-requires : goal.is_seedless_to-requires
is_seedless_to-requires c = (c.requires.0, c.requires.1)

pub shape_of-w-then-is_seedless_to : goal.shape_of-w-then-is_seedless_to
shape_of-w-then-is_seedless_to c = c.is_seedless_to.auto.w

pub returns-then-is_seedless_to : goal.returns-then-is_seedless_to
returns-then-is_seedless_to c = let e = c.is_seedless_to in (e.ensures.0 c.if-is_seedless_to.true, e.ensures.1)

pub shape_of-w : goal.shape_of-w
shape_of-w c = c.is_seedless_to.auto.w

pub returns : goal.returns
returns c =
    let a = c.args in (
      silent_nothing a.p.scene a.points.now (used_in_scene a.p.scene a.w.now) c.in_vain.result
          c.in_vain.ensures,
      c.is_seedless_to.ensures.1,
    )
