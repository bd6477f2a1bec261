use Rattle.std.proofs.Common.{arith}
use Rattle.load_maker.proofs.LoadLemmas.{bump_text, dirty_text, look_text}
use Rattle.load_maker.proofs.load.push_call.Goals as goal

pub returns-in-1 : goal.returns-in-1
returns-in-1 c = rw (bump_text c.args.number c.args.draw c.in-1.is) c.push_numbered-in-1.ensures

pub returns-in-2 : goal.returns-in-2
returns-in-2 c = rw (dirty_text c.args.number c.args.draw c.in-2.is) c.push_numbered-in-2.ensures

pub returns-in_default : goal.returns-in_default
returns-in_default c = rw (look_text c.args.number c.args.draw (omega arith)) c.push_numbered-in_default.ensures
