-- `is_third` meets its contract: its tests are those of `is_third`, in their order, but for two that ask limits and for
-- slivers first. Assumes nothing.
use mathlib.Core.Path.{sym}
use borrow.Author.Tests.{eq-eqb, ne_eqb}
use Rattle.patch.specs.Search.{is_third}
use Rattle.decisions.specs.Decisions.{floats_of}
use Rattle.decisions.specs.Inner.Completes.{completes}
use Rattle.nearby.specs.Inner.Ready.{used_in_scene}
use Rattle.seedless.proofs.Nothing.{limits_third, seedless_third}
use Rattle.filters.specs.Inner.Refused.{sliver}
use Rattle.three_points.proofs.Points.{refused_points, throughout_points}
use Rattle.three_points.proofs.Refused.{refused_seedless}
use Rattle.seed.proofs.triples.is_third.Goals as goal

pub returns-then-i-k : goal.returns-then-i-k
unfolding is_third floats_of
returns-then-i-k c = let a = c.args in rw (eq-eqb a.i a.k c.if-i-k.true)

pub returns-then-j-k : goal.returns-then-j-k
unfolding is_third floats_of
returns-then-j-k c =
    let a = c.args in
    rw (ne_eqb a.i a.k c.if-i-k.false, eq-eqb a.j a.k c.if-j-k.true)

pub returns-then-not-is_unused : goal.returns-then-not-is_unused
unfolding is_third floats_of
returns-then-not-is_unused c =
    let a = c.args in
    rw (
      ne_eqb a.i a.k c.if-i-k.false,
      ne_eqb a.j a.k c.if-j-k.false,
      sym c.is_unused.ensures,
      c.if-not-is_unused.true,
    )

pub returns-then-is_refused : goal.returns-then-is_refused
returns-then-is_refused c =
    let point_at_lem = c.point_at-third in
    let start = c in
    let a = start in
    sym (limits_third (used_in_scene a.args.s a.args.w.now) a.requires.4 a.requires.1 a.requires.2 a.requires.3 a.requires.5
    (refused_points c.point_at-first.ensures c.point_at-second.ensures point_at_lem.ensures
    (c.is_refused.ensures c.if-is_refused.true)))

pub returns-then-is_rare_sliver : goal.returns-then-is_rare_sliver
returns-then-is_rare_sliver c =
    let point-at3 = c.point_at-second in
    let point-at2 = c.point_at-first in
    let point_at_lem = c.point_at-third in
    let start = c in
    let a = start in
    sym (seedless_third (used_in_scene a.args.s a.args.w.now) a.requires.5
    (refused_seedless a.requires.4 a.requires.1 a.requires.2 a.requires.3 (throughout_points point-at2.ensures point-at3.ensures point_at_lem.ensures
    (sliver (c.is_rare_sliver.ensures c.if-is_rare_sliver.true)))))

pub returns : goal.returns
unfolding is_third floats_of completes
returns c =
    let e = c in
    let a = e.args in
    rw (
      ne_eqb a.i a.k e.if-i-k.false,
      ne_eqb a.j a.k e.if-j-k.false,
      sym e.is_unused.ensures,
      e.if-not-is_unused.false,
    ) c.is_completed.ensures
