-- What one profile runs the last one runs.
use Rattle.std.proofs.Common.{sym, subst}
use Rattle.std.specs.Prelude.{All}
use Rattle.std.proofs.lemmas.List.Elements.{All-nil}
use Rattle.wasm_values.specs.declared.profile.Profile.{Profile}
use Rattle.wasm_values.specs.declared.profile.Profile.TheVariants.{One, Two, Three}
use Rattle.wasm_types.specs.Tree.{ModuleTree}
use Rattle.wasm_spec.specs.Validity.{IsSupported, IsHostImport}

pub widest : (profile : Profile) (m : ModuleTree) → IsSupported profile m → IsSupported Three m
widest One m s = record { imports = subst (All (IsHostImport m)) (sym s.imports) (All-nil (IsHostImport m)); no_float = s.no_float }
widest Two m s = record { imports = subst (All (IsHostImport m)) (sym s.imports) (All-nil (IsHostImport m)); no_float = s.no_float }
widest Three m s = s
