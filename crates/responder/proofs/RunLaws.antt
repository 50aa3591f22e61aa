-- Laws of a whole run: block after block it answers the lines of all that was read. Assumes nothing.
use Rattle.std.specs.Prelude.{None, Option, Some}
use mathlib.Core.Path.{◌≡◌, refl, sym, ap, ◌∙◌, subst}
use mathlib.Core.Bool.{true}
use mathlib.Core.List.{List, [], ◌++◌, append-nil}
use mathlib.Core.Logic.{inl, inr}
use Prim.Native.Nat.{ℕ, zero, suc, ◌<◌}
use native.Mathlib.Omega.{arith}
use lib.ListN.{take}
use Rattle.console.specs.QuestionLine.{line_limit}
use Rattle.record_log.specs.Appending.{is_open}
use Rattle.responder.specs.declared.source.Source.{Source}
use Rattle.responder.specs.declared.lines.Run.{Run}
use Rattle.responder.specs.Responses.{ended_lines, input_lines, responses, records_of}
use Rattle.responder.specs.Contract.{Stand, stand_in, nothing, begun, Counted, Follows, Finishes, Serves, SoFar, Answers}
use Rattle.responder.proofs.BlockLaws.{not_going}
use Rattle.responder.proofs.CountedLaws.{handed_on, handed_halted}
use Rattle.responder.proofs.SeriesLaws.{series_handed, series_then, series_responses, series_records}

module _ (source : Source) (file : List ℕ) (size : ℕ) where
  -- nothing was read
  pub so_far_none : {run : Run} → Counted [] [] run run → SoFar source file size run nothing run
  so_far_none h = record { input = []; printed = []; appended = []; series = begun; handed = h }

  -- a buffer's length by another name
  pub serves_sized : {n : ℕ} {before after : Run} {old new : Stand} {loaded : Option ℕ} {block : List ℕ} → n ≡ size → Serves source file n loaded block old before new after → Serves source file size loaded block old before new after
  serves_sized {n} {before} {after} {old} {new} {loaded} {block} e v = subst (λ (x : ℕ). Serves source file x loaded block old before new after) e v

  module _ (room : line_limit < size) where
    -- the answers so far are those to the lines that a newline ends
    pub so_far_answers : {before after : Run} {stand : Stand} → stand.answers ≡ [] → stand.records ≡ [] → SoFar source file size before stand after → Answers source file before after
    so_far_answers {before} {after} {stand} a r s =
        let h = series_handed source file size room s.series in
        let e = sym (append-nil s.printed) ∙ ap (λ (x : List ℕ). s.printed ++ x) (sym a) ∙ h.answers in
        record {
          input = s.input;
          lines = ended_lines [] s.input;
          all_or_ended = inr refl;
          appended = s.appended;
          records = λ t. sym (append-nil s.appended) ∙ ap (λ (x : List ℕ). s.appended ++ x) (sym r) ∙ h.records t;
          handed = subst (λ (x : List ℕ). Counted x s.appended before after) e s.handed;
        }

    -- a block more
    pub so_far_follows : {before mid after : Run} {old new : Stand} (block : List ℕ) → SoFar source file size before old mid → Follows source file size block old mid new after → SoFar source file size before new after
    so_far_follows block s f = record {
      input = s.input ++ take f.bytes block;
      printed = s.printed ++ f.served.printed;
      appended = s.appended ++ f.served.appended;
      series = series_then source file size room s.series f.served.series;
      handed = handed_on s.handed f.served.handed;
    }

    -- the end of the input: all lines are answered
    pub so_far_finishes : {before mid after : Run} {old new : Stand} → SoFar source file size before old mid → Finishes source file old mid new after → Answers source file before after
    unfolding responses records_of
    so_far_finishes {before} {mid} {after} s f = record {
      input = s.input;
      lines = input_lines s.input;
      all_or_ended = inl refl;
      appended = s.appended ++ f.waiting.records;
      records = λ t. series_records source file size room s.series f.ends (f.handed.opened t);
      handed = subst (λ (x : List ℕ). Counted x (s.appended ++ f.waiting.records) before after) (series_responses source file size room s.series f.ends) (handed_on s.handed f.handed);
    }

    -- what a read told was served
    pub so_far_serves : {before mid after : Run} {old new : Stand} (loaded : Option ℕ) (block : List ℕ) → Serves source file size loaded block old mid new after
        → old.answers ≡ [] → old.records ≡ [] → new.answers ≡ [] → new.records ≡ [] → SoFar source file size before old mid
        → (after.going ≡ true → SoFar source file size before new after) × Answers source file before after
    so_far_serves (Some zero) block v a r b q s = let f = v.finishes refl in (not_going f.stops, so_far_finishes s f)
    so_far_serves (Some (suc n)) block v a r b q s = let t = so_far_follows (take (suc n) block) s (v.follows (suc n) refl (omega arith)) in ((λ e. t), so_far_answers b q t)
    so_far_serves {before} {mid} {after} None block v a r b q s =
        let e = v.fails refl in
        let t = so_far_answers a r s in (
          not_going (ap (λ (x : Run). x.going) e),
          record {
            input = t.input;
            lines = t.lines;
            all_or_ended = t.all_or_ended;
            appended = t.appended;
            records = λ g. t.records (sym (ap (λ (x : Run). is_open x.log) e) ∙ g);
            handed = handed_halted e t.handed;
          },
        )

    -- a run that begins, whose buffers are empty
    pub so_far_start : (line out records : List ℕ) {run : Run} → run.progress.line ≡ 0 → run.progress.answers ≡ 0 → run.progress.records ≡ 0 → Counted [] [] run run
        → (run.going ≡ true → SoFar source file size run (stand_in line out records run.progress) run) × Answers source file run run
    so_far_start line out records {run} l a r h =
        let e : stand_in line out records run.progress ≡ nothing = rw (l, a, r) in
        let s = so_far_none h in
        ((λ g. rw e s), so_far_answers refl refl s)
