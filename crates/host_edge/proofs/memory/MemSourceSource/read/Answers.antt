use Rattle.std.proofs.Common.{arith, rules}
use Rattle.host_edge.proofs.PartReads.{read_part}
use Rattle.host_edge.proofs.memory.MemSourceSource.read.Goals as goal

pub returns-clause-bytes : goal.returns-clause-bytes
returns-clause-bytes c = read_part c.args.self.now.bytes.items c.args.buf.now c.copy_from_slice.new.self c.args.self.now.taken c.min-count.result
    (omega arith) (search rules) (search rules) (λ zero some. omega arith)
