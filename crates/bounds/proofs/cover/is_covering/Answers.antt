-- `bounds::cover::is_covering` meets its contract. Assumes nothing.
use Rattle.bounds.specs.Inner.Cover.{is_covering}
use Rattle.bounds.proofs.cover.is_covering.Goals as goal

pub returns-then-lo-v-2 : goal.returns-then-lo-v-2
unfolding is_covering
returns-then-lo-v-2 c = rw (c.if-lo-v.true, c.if-v-hi.true, c.if-lo-v-2.true)

pub returns-else-lo-v-2 : goal.returns-else-lo-v-2
unfolding is_covering
returns-else-lo-v-2 c = rw (c.if-lo-v.true, c.if-v-hi.true, c.if-lo-v-2.false)

pub returns-else-v-hi : goal.returns-else-v-hi
unfolding is_covering
returns-else-v-hi c = rw (c.if-lo-v.true, c.if-v-hi.false)

pub returns-else-lo-v : goal.returns-else-lo-v
unfolding is_covering
returns-else-lo-v c = rw c.if-lo-v.false
