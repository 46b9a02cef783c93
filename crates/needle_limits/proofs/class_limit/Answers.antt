-- `class_limit` meets its contract.
use Rattle.needle_limits.proofs.class_limit.Goals as goal

pub returns-in-Times10 : goal.returns-in-Times10
returns-in-Times10 c = record { limits = λ threshold g. rw c.in-Times10.is g.times_10 }

pub returns-in-Times16 : goal.returns-in-Times16
returns-in-Times16 c = record { limits = λ threshold g. rw c.in-Times16.is g.times_16 }

pub returns-in-Times32 : goal.returns-in-Times32
returns-in-Times32 c = record { limits = λ threshold g. rw c.in-Times32.is g.times_32 }

pub returns-in-Times64 : goal.returns-in-Times64
returns-in-Times64 c = record { limits = λ threshold g. rw c.in-Times64.is g.times_64 }

pub returns-in-Times128 : goal.returns-in-Times128
returns-in-Times128 c = record { limits = λ threshold g. rw c.in-Times128.is g.times_128 }
