-- The profile of a request file: how a line names it, and what a file of it has.
use Rattle.std.specs.Prelude.{ℕ, Bool, true, false, if◌then◌else◌, List, [], ◌∷◌, codes, Result, Ok, Err}
use Rattle.std.specs.Str.{bytes_eq}
use Rattle.wasm_values.specs.declared.profile.Profile.{Profile}
use Rattle.wasm_values.specs.declared.profile.Profile.TheVariants as modules
use Rattle.request_text.specs.declared.file_profile.FileProfile.{FileProfile}
use Rattle.request_text.specs.declared.file_profile.FileProfile.TheVariants.{One, Two, Three, Four, Five}
use Rattle.request_text.specs.declared.request.Reason.{Reason}
use Rattle.request_text.specs.declared.request.Reason.TheVariants.{BadProfile}

-- the profile that the words after `profile` name, by its number
unfoldable pub profile_of : List (List ℕ) → Result FileProfile Reason
profile_of (word ∷ []) =
    if bytes_eq word (codes "1") then Ok One
    else if bytes_eq word (codes "2") then Ok Two
    else if bytes_eq word (codes "3") then Ok Three
    else if bytes_eq word (codes "4") then Ok Four
    else if bytes_eq word (codes "5") then Ok Five
    else Err BadProfile
profile_of words = Err BadProfile

-- the profile in which the modules of a file are read, which is 3 from profile 3 on
abbrev pub modules_profile : FileProfile → Profile
modules_profile One = modules.One
modules_profile Two = modules.Two
modules_profile profile = modules.Three

-- lines send from profile 3 on
abbrev pub sends : FileProfile → Bool
sends One = false
sends Two = false
sends profile = true

-- lines name tenants from profile 4 on, and each call is made whole
abbrev pub has_tenants : FileProfile → Bool
has_tenants Four = true
has_tenants Five = true
has_tenants profile = false

-- lines retire modules from profile 5 on
abbrev pub retires : FileProfile → Bool
retires Five = true
retires profile = false
