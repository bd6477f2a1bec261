use Rattle.std.proofs.Common.{◌∙◌, Some, ap, sym, refl, arith}
use Rattle.std.proofs.lemmas.Option.{same_Some}
use Rattle.retired_tags.specs.Passes.{steps}
use Rattle.tenant_share.proofs.RetiringLemmas.{still_knows}
use Rattle.run_books.specs.Entries.{Entry}
use Rattle.run_books.specs.Lines.{limits_in}
use Rattle.run_books.proofs.EntryLemmas.{many_entries}
use Rattle.run_books.proofs.PlaceLemmas.{placed_retire}
use Rattle.call_rounds.proofs.RunLemmas.{crew_knows, crew_none, lane_later, lane_retired, no_crew_knows, ready_retired, run_further, same_module}
use Rattle.call_rounds.proofs.rounds.retire.Goals as goal
use Rattle.call_rounds.proofs.rounds.retire.Goals.{in-Ok+in-Some, in-Ok+in_default-crew, in_default}

pub entry_at-requires : goal.entry_at-requires
entry_at-requires g c =
    let placed = placed_retire c.args.requests.now.directives 0 c.args.run.now.done c.args.place c.requires.line.0 c.directives-requests.ensures.lawful.placed c.requires.line.1 in
    let many = many_entries (limits_in c.args.requests.now.profile g.N.Naming.config) c.args.requests.now.directives c.args.run.now.done _ _ c.requires.run.books.entered in
    rw c.deref.ensures.value (omega arith)

pub returns-clause-run : goal.returns-clause-run
returns-clause-run g c =
    let r = c.requires.run in
    let line = c.requires.line in
    let entries = c.args.run.now.books.registry.entries.items in
    let there = rw c.deref.ensures.value at c.entry_at.ensures in
    elim c.match-entry_at.branch [
      | in-Ok+in-Some w ↦ (
          let bit = w.retire.ensures.bit in
          let accepted = there ∙ ap (λ (e : Entry). Some e) w.in-Ok.is in
          rw w.run-is (run_further _ _ _ _ _ _ _ r line.1 w.retire.ensures.same.0
          (ready_retired _ _ _ _ _ _ r.crew w.in-Some.is w.retire_for_each.ensures.callers w.retire_for_each.ensures.retired refl)
          (lane_retired c.args.run.now.lane.host.retired.tags _ _ _ c.args.place c.requires.line.0 w.in-Ok.module c.args.run.now.lane.pass.retired w.retire.new.self.pass.retired _ r.retired line.1 accepted bit)
          (λ tag knew. record { lane = still_knows tag _ _ _ bit.same bit.step knew.lane; crew = crew_knows tag _ w.in-Some.crew (record { shared = w.in-Some.crew.shared; callers = w.retire_for_each.new.callers }) w.in-Some.is w.retire_for_each.ensures.still knew.crew })
          (λ m got. rw (same_module entries c.args.place _ m _ there got w.in-Ok.is) (record { lane = w.retire.ensures.known; crew = w.retire_for_each.ensures.known })))
          )
      | in-Ok+in_default-crew w ↦ (
          let bit = w.retire.ensures.bit in
          let accepted = there ∙ ap (λ (e : Entry). Some e) w.in-Ok.is in
          rw w.run-is (run_further _ _ _ _ _ _ _ r line.1 w.retire.ensures.same.0 r.crew
          (lane_retired c.args.run.now.lane.host.retired.tags _ _ _ c.args.place c.requires.line.0 w.in-Ok.module c.args.run.now.lane.pass.retired w.retire.new.self.pass.retired _ r.retired line.1 accepted bit)
          (λ tag knew. record { lane = still_knows tag _ _ _ bit.same bit.step knew.lane; crew = knew.crew })
          (λ m got. rw (same_module entries c.args.place _ m _ there got w.in-Ok.is) (record { lane = w.retire.ensures.known; crew = no_crew_knows _ _ w.in_default-crew.not-Some })))
          )
      | in_default w ↦ rw w.run-is (run_further _ _ _ _ _ _ _ r line.1 refl r.crew (lane_later _ _ _ (steps c.args.run.now.lane.pass.retired) r.retired) (λ tag knew. record { lane = knew.lane; crew = knew.crew })
          (λ m got. absurd (w.in_default.not-Ok m (same_Some _ _ (sym there ∙ got)))))
    ]

pub returns-clause-carried_out : goal.returns-clause-carried_out
returns-clause-carried_out g c =
    let there = rw c.deref.ensures.value at c.entry_at.ensures in
    elim c.match-entry_at.branch [
      | in-Ok+in-Some w ↦ rw w.run-is (record {
        retired = λ m got.
            let same = same_module c.args.run.now.books.registry.entries.items c.args.place _ m _ there got w.in-Ok.is in
            rw (same, w.in-Some.is) (record {
              lane = record { how = w.retire.result; bit = w.retire.ensures.bit; known = w.retire.ensures.known; known_before = w.retire.ensures.before; sweeps = w.retire.ensures.sweeps };
              crew = w.retire_for_each.ensures.retired;
            });
        books = refl;
        done = refl;
      })
      | in-Ok+in_default-crew w ↦ rw w.run-is (record {
        retired = λ m got.
            let same = same_module c.args.run.now.books.registry.entries.items c.args.place _ m _ there got w.in-Ok.is in
            rw same (record {
              lane = record { how = w.retire.result; bit = w.retire.ensures.bit; known = w.retire.ensures.known; known_before = w.retire.ensures.before; sweeps = w.retire.ensures.sweeps };
              crew = crew_none _ _ w.in_default-crew.not-Some;
            });
        books = refl;
        done = refl;
      })
      | in_default w ↦ rw w.run-is (record {
        retired = λ m got. absurd (w.in_default.not-Ok m (same_Some _ _ (sym there ∙ got)));
        books = refl;
        done = refl;
      })
    ]
