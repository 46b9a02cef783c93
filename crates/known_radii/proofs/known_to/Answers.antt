-- `known_to` meets its contract. Assumes nothing.
use Rattle.nearby.specs.Inner.Ready.{used_in_scene}
use Rattle.nearby.proofs.Keeping.{kept_self}
use Rattle.known_radii.proofs.Larger.{nothing_yet, silent_nothing}
use Rattle.known_radii.proofs.known_to.Goals as goal

pub returns-then-told : goal.returns-then-told
returns-then-told c = let a = c.args in (c.requires.2 c.if-told.true, kept_self a.p.scene a.w.now)

pub returns-then-budget-eq0 : goal.returns-then-budget-eq0
returns-then-budget-eq0 c =
    let a = c.args in
    (nothing_yet a.p.scene a.points.now (used_in_scene a.p.scene a.w.now), kept_self a.p.scene a.w.now)

pub returns-then-is_too_soon : goal.returns-then-is_too_soon
returns-then-is_too_soon c =
    let a = c.args in (
      silent_nothing a.p.scene a.points.now (used_in_scene a.p.scene a.w.now) a.note
          (c.is_too_soon.ensures c.if-is_too_soon.true),
      kept_self a.p.scene a.w.now,
    )

pub ask_at-requires : goal.ask_at-requires
ask_at-requires c = (
  c.requires.0,
  c.requires.1,
)

pub returns-then-p-largest : goal.returns-then-p-largest
returns-then-p-largest c = c.ask_at.ensures

pub returns : goal.returns
returns c =
    let a = c.args in
    (nothing_yet a.p.scene a.points.now (used_in_scene a.p.scene a.w.now), kept_self a.p.scene a.w.now)
