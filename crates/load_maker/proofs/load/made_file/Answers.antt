use Rattle.std.proofs.Common.{◌≡◌, ℕ, ◌+◌, List, ◌++◌, ◌∙◌, ap, codes, rules}
use Rattle.load_maker.specs.Load.{call_text, draw_of, made_file, state_after, state_at}
use Rattle.load_maker.proofs.LoadLemmas.{next_state, one_more_call}
use Rattle.load_maker.proofs.load.made_file.Goals as goal

pub loop-calls-preserved : goal.loop-calls-preserved
loop-calls-preserved c =
    let calls = c.loop-calls.calls in
    let next : c.state_after-state.result ≡ state_at c.args.seed (calls + 1) =
    c.state_after-state.ensures ∙ ap state_after c.loop-calls.invariant.state ∙ next_state c.args.seed calls in
    let drawn : c.draw_of.result ≡ draw_of (state_at c.args.seed (calls + 1)) = c.draw_of.ensures ∙ ap draw_of next in
    let text : c.push_call.new.file.items ≡ c.loop-calls.file.items ++ call_text (calls + 1) c.draw_of.result = search rules in
    let line : c.push.new.self.items ≡ c.push_call.new.file.items ++ codes "\n" = search rules in
    record {
      state = next;
      file = line ∙ ap (λ (t : List ℕ). t ++ codes "\n") (text ∙ ap (λ (t : List ℕ). t ++ call_text (calls + 1) c.draw_of.result) c.loop-calls.invariant.file
          ∙ ap (λ (d : ℕ). made_file c.args.seed calls ++ call_text (calls + 1) d) drawn) ∙ one_more_call c.args.seed calls;
    }
