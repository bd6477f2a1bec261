-- The bytes of a text.
use Rattle.std.specs.Prelude.{ℕ, List}
use Rattle.host_run.specs.declared.due.Text.{Text}
use Rattle.host_run.specs.declared.due.Text.TheVariants.{Fixed, Made}

abbrev pub bytes_of : Text → List ℕ
bytes_of (Made text) = text.items
bytes_of (Fixed text) = text.now
