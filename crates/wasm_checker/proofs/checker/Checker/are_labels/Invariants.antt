use Rattle.std.proofs.Common.{◌≡◌, drop}
use Rattle.std.specs.Prelude.{slice_get}
use Rattle.std.specs.List.{list_all}
use Rattle.wasm_spec.specs.Typing.{result_types, is_label}
use Rattle.wasm_checker.specs.Position.{CheckPosition, ShowsPosition, labels_of}
use Rattle.wasm_checker.proofs.checker.Checker.are_labels.Given as goal

abbrev pub invariant-loop-x : goal.invariant-loop-x
invariant-loop-x l = (k : CheckPosition) → ShowsPosition k l.self → list_all (λ x. is_label (result_types l.t) (slice_get (labels_of l.body k.blocks) x)) l.names ≡ list_all (λ x. is_label (result_types l.t) (slice_get (labels_of l.body k.blocks) x)) (drop l.x-index l.names)
