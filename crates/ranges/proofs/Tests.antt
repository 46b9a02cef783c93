-- What a branch on a callee's answer says of the test that the answer is. Assumes nothing.
use mathlib.Core.Path.{◌≡◌, sym, ◌∙◌}
use mathlib.Core.Bool.{Bool, true, false}

pub passed : {answer test : Bool} → answer ≡ test → answer ≡ true → test ≡ true
passed e h = sym e ∙ h

pub failed : {answer test : Bool} → answer ≡ test → answer ≡ false → test ≡ false
failed e h = sym e ∙ h
