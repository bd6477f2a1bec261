use Rattle.std.proofs.Common.{◌≡◌, map, string_bytes, take}
use Rattle.host_run.specs.Serving.{texts_of}
use Rattle.poolhost.proofs.words_of.Given as goal

abbrev pub invariant-loop-arg : goal.invariant-loop-arg
invariant-loop-arg l = texts_of l.words.items ≡ map string_bytes (take l.arg-index l.args)
