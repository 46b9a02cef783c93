-- The cases of how many first points are tried, by computation. Assumes nothing.
use mathlib.Core.Path.{refl}
use Rattle.patch.specs.Search.{is_second, is_third, third_of, second_of, first_of, searching}
use Rattle.cases.specs.Tries.{TryCases}
use Rattle.lists.specs.Lists.{up_from}

pub try_cases : TryCases
unfolding is_second is_third third_of second_of first_of up_from searching
try_cases = record { last_try = refl; too_late = refl; used_is_no_try = refl }
