use Rattle.std.proofs.Common.{◌≡◌, ◌≤◌, None, length, refl, arith, rules}
use Rattle.std.specs.Prelude.{Some}
use Rattle.std.specs.List.{slice_get}
use Rattle.std.specs.Str.{bytes_eq}
use Rattle.std.proofs.lemmas.Grind.{common_steps}
use Rattle.std.proofs.lemmas.Option.{slice_get_past, slice_get_read}
use Rattle.request_text.proofs.PlaceLemmas.{none_of_name, same_name}
use Rattle.request_text.proofs.scope.has_name.Goals as goal

pub returns-in-Some : goal.returns-in-Some
returns-in-Some c =
    let names = c.args.names.now in
    let h = c.in-Some.ensures.lookup in
    let at : slice_get names c.args.place ≡ Some c.in-Some.other.now = slice_get_read names (length names) c.args.place c.in-Some.other.now refl h.3.0 h.1 in
    let same : c.eq.result ≡ bytes_eq c.in-Some.other.now c.args.name.now = search rules in
    same_name c.in-Some.other.now c.args.name.now (slice_get names c.args.place) c.eq.result at same

pub returns-in-None : goal.returns-in-None
returns-in-None c =
    let names = c.args.names.now in
    let past : length names ≤ c.args.place = grind (arith, common_steps, c.in-None.ensures.lookup) in
    none_of_name c.args.name.now (slice_get names c.args.place) (slice_get_past names c.args.place past)
