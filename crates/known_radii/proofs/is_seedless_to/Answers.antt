-- `is_seedless_to` meets its contract: what is known at a radius is known at every smaller one. Assumes nothing.
use mathlib.Core.Path.{sym, subst}
use lib.Dec.{T}
use Rattle.nearby.specs.Inner.Ready.{used_in_scene}
use Rattle.nearby.proofs.Keeping.{kept_self}
use Rattle.known_radii.proofs.Larger.{larger_nothing}
use Rattle.known_radii.proofs.is_seedless_to.Goals as goal

pub returns-then-not-is_growing : goal.returns-then-not-is_growing
returns-then-not-is_growing c = (
  λ h. absurd (subst T (sym h) tt),
  kept_self c.args.p.scene
      c.args.w.now,
)

pub is_exhausted-requires : goal.is_exhausted-requires
is_exhausted-requires c = (
  c.requires.0,
  c.requires.1,
  c.limits_of-limits.ensures,
)

pub returns : goal.returns
returns c =
    let a = c.args in
    let g = c.is_growing in
    let e = c.is_exhausted in (
      λ h. larger_nothing a.p.scene a.points.now (used_in_scene a.p.scene a.w.now) a.largest
          (g.ensures (c.if-not-is_growing.false)) (e.ensures.0 h),
      e.ensures.1,
    )
