-- What a source and a sink in memory show.
use Rattle.std.specs.Prelude.{ℕ, List, drop}
use Rattle.host_edge.specs.declared.memory.MemSource.{MemSource}
use Rattle.host_edge.specs.declared.memory.MemSink.{MemSink}

-- the bytes that a source has left
abbrev pub bytes_left : MemSource → List ℕ
bytes_left s = drop s.taken s.bytes.items

-- the most bytes that it gives in one read
abbrev pub read_piece : MemSource → ℕ
read_piece s = s.piece

-- the numbers of the reads that fail
abbrev pub failing_reads : MemSource → List ℕ
failing_reads s = s.fails.items

abbrev pub reads_made : MemSource → ℕ
reads_made s = s.reads

abbrev pub read_faults : MemSource → ℕ
read_faults s = s.faults

-- the bytes that a sink took
abbrev pub bytes_written : MemSink → List ℕ
bytes_written s = s.bytes.items

-- the most bytes that it takes in one write
abbrev pub write_piece : MemSink → ℕ
write_piece s = s.piece

-- the numbers of the writes that fail
abbrev pub failing_writes : MemSink → List ℕ
failing_writes s = s.fails.items

abbrev pub writes_made : MemSink → ℕ
writes_made s = s.writes

abbrev pub write_faults : MemSink → ℕ
write_faults s = s.faults

-- how many writes failed because the sink could not grow
abbrev pub refused_growths : MemSink → ℕ
refused_growths s = s.refused
