-- What is kept beside a reader and a writer of std.
use Rattle.std.specs.Prelude.{ℕ}
use Rattle.host_edge.specs.declared.standard.StdSource.{StdSource}
use Rattle.host_edge.specs.declared.standard.StdSink.{StdSink}

abbrev pub reader_of : {R : Type 0} → StdSource R → R
reader_of s = s.inner

abbrev pub read_faults : {R : Type 0} → StdSource R → ℕ
read_faults s = s.faults

abbrev pub writer_of : {W : Type 0} → StdSink W → W
writer_of s = s.inner

abbrev pub write_faults : {W : Type 0} → StdSink W → ℕ
write_faults s = s.faults
