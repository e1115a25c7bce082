use Rattle.std.proofs.Common.{◌≡◌, ◌∙◌, rules, map, string_bytes, ap, sym, subst, inl, inr, refl}
use Rattle.std.specs.Prelude.{IfSome, Some, None, option_map}
use Rattle.clap.specs.Words.{fault_of}
use Rattle.linewise.proofs.ForCallers.{memory_or_help, memory_or_mistake, only_memory}
use Rattle.live_cli.specs.declared.words.Options.{Options}
use Rattle.live_cli.specs.Running.{EndGives}
use Rattle.live_cli.specs.Words.{capture_hint, daplive, end_named, usual}
use Rattle.live_cli.proofs.RunLemmas.{hinted_once, is_no_end, is_no_help, is_some_fault, names_usual, no_fault, none_named, one_end, refused, untouched}
use Rattle.live_cli.proofs.running.run_words.Goals as goal

pub returns-in-Some : goal.returns-in-Some
returns-in-Some g c =
    let words = map string_bytes c.args.words.now in
    let hint = c.in-Some.hint.now in
    let told : Some hint ≡ capture_hint words = search rules in
    record {
      named = λ options none named. absurd (is_some_fault words hint told none);
      usual = λ program role named. absurd (is_no_end words program role hint told named);
      digits = λ none unnamed. (inl c.tell_hint.ensures.status, untouched _);
      mistake = λ mistakes. (inl c.tell_hint.ensures.status, untouched _);
      captures = λ other asked. (c.tell_hint.ensures.status, untouched _, hinted_once words hint other _ _ told asked c.tell_hint.ensures.told);
      unread = λ fault. refl;
      help = λ help. absurd (is_no_help words hint told help);
      quiet = λ help zero. absurd (is_no_help words hint told help);
    }

pub returns-in-Err : goal.returns-in-Err
returns-in-Err g c =
    let words = map string_bytes c.args.words.now in
    let kinds = fault_of daplive words in
    let e = c.in-Err.error in
    let has = c.in-Err.ensures.kinds in
    let input = g.R.Read.remaining c.args.reader.now in
    let old = g.W.Write.contents c.args.writer.now in
    let new = g.W.Write.contents c.refuse.new.writer in
    let told = g.E.Write.contents c.args.error_writer.now in
    let tells = g.E.Write.contents c.refuse.new.error_writer in
    record {
      named = λ options none named. refused options input input old new told tells c.refuse.result (c.refuse.ensures.memory (only_memory kinds e none has));
      usual = λ program role words. refused (usual role).1 input input old new told tells c.refuse.result
          (c.refuse.ensures.memory (only_memory kinds e (ap (fault_of daplive) words ∙ no_fault program role) has));
      digits = λ none unnamed. let kept = c.refuse.ensures.memory (only_memory kinds e none has) in (inr (kept.0, kept.2), kept.1);
      mistake = λ mistakes.
          elim (memory_or_mistake kinds e mistakes has) [
            | inl memory ↦ let kept = c.refuse.ensures.memory memory in (inr (kept.0, kept.2), kept.1)
            | inr mistake ↦
                elim (c.refuse.ensures.mistake mistake) [
                  | inl memory ↦ let kept = c.refuse.ensures.memory memory in (inr (kept.0, kept.2), kept.1)
                  | inr told ↦ (inl told.0, told.1)
                ]
          ];
      captures = λ hint asked. let none : None ≡ capture_hint words = search rules in let no : None ≡ Some hint = none ∙ asked in absurd cc;
      unread = λ fault. refl;
      help = λ help.
          elim (memory_or_help kinds e help has) [
            | inl memory ↦ inr (c.refuse.ensures.memory memory).0
            | inr asked ↦ c.refuse.ensures.help asked
          ];
      quiet = λ help zero. c.refuse.ensures.quiet zero;
    }

pub returns-in-Ok-Ok-clause-usual : goal.returns-in-Ok-Ok-clause-usual
returns-in-Ok-Ok-clause-usual g c program role named =
    let words = map string_bytes c.args.words.now in
    let named_first : Some c.in-Ok-Ok.options ≡ end_named words = search rules in
    let same = one_end words c.in-Ok-Ok.options (usual role).1 named_first (ap end_named named ∙ names_usual program role) in
    subst (λ (o : Options). IfSome (g.R.Read.remaining c.args.reader.now) (λ input. EndGives o input (g.R.Read.remaining c.run_options.new.reader) (g.W.Write.contents c.args.writer.now) (g.W.Write.contents c.run_options.new.writer) (g.E.Write.contents c.args.error_writer.now) (g.E.Write.contents c.run_options.new.error_writer) c.run_options.result)) same c.run_options.ensures

pub returns-in-Ok-Err-clause-usual : goal.returns-in-Ok-Err-clause-usual
returns-in-Ok-Err-clause-usual g c program role named =
    let words = map string_bytes c.args.words.now in
    let none : None ≡ end_named words = search rules in
    absurd (none_named words (usual role).1 none (ap end_named named ∙ names_usual program role))
