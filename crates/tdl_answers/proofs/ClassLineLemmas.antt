-- The answer lines of class URIs, and of links by class URIs: each text has one.
use Rattle.std.proofs.Common.{◌≡◌, ℕ, List, Some, slice_get, subst, ap, refl, sym, ◌∙◌}
use Rattle.std.specs.Prelude.{◌≢◌, Result, Ok, Err}
use Rattle.gs_ai.specs.declared.row.AiRow.{AiRow}
use Rattle.gs_class.specs.declared.error.ClassFault.{ClassFault}
use Rattle.gs_class.specs.declared.error.ClassFault.TheVariants as reading
use Rattle.gs_class.specs.Meanings.{ReadsAs, said_by}
use Rattle.gs_class.specs.Sets.{ClassRows, IsClear, IsOfTable, kind_of}
use Rattle.gs_class.proofs.OneClass.{one_identity}
use Rattle.gs_class.proofs.ReadClasses.{class_read, no_class}
use Rattle.gs_epc.specs.Layout.{lay}
use Rattle.gs_grammar.specs.Counts.{Counted, none_of, one_of, two_of}
use Rattle.gs_grammar.specs.Levels.{item_lists}
use Rattle.gs_grammar.proofs.DecidedWords.{each_counted}
use Rattle.gs_ident.specs.Elements.{Elements}
use Rattle.gs_ident.specs.Links.{canonical_link}
use Rattle.gs_membank.proofs.OneDump.{SomeKnown}
use Rattle.gs_translate.specs.declared.form.Form.TheVariants.{Link}
use Rattle.gs_translate.specs.Meanings.{IsRead}
use Rattle.gs_translate.proofs.AnswerLaws.{one_read, some_read}
use Rattle.gs_translate.proofs.StepLaws.{one_after_long, one_reworded, some_after_long, some_reworded, then_one, then_some}
use Rattle.gs_translate.specs.Steps.{Reworded, reworded}
use Rattle.tdl_answers.specs.ClassAnswers.{ClassReading, ClassWriting, IsClassCanonLine, IsClassLink, IsClassText, IsClassUriLine, LinksClass}
use Rattle.tdl_answers.specs.Reasons.{class_reason, class_write_reason}
use Rattle.gs_class.specs.Written.{class_answer}
use Rattle.tdl_lines.specs.OutputsSupport.{HasAnswers, HasOneAnswer}
use Rattle.tdl_answers.proofs.LineLemmas.{one_line, some_line}

-- ---- class URIs

one_class : (ais : List AiRow) (set : ClassRows) (text : List ℕ) → IsClear set → (one other : Result Elements ClassFault)
    → one ≢ Err reading.Memory → other ≢ Err reading.Memory → ReadsAs ais set text one → ReadsAs ais set text other → one ≡ other
one_class ais set text clear (Ok identity) (Ok other) t u a b = ap Ok (one_identity ais set text identity other clear a b)
one_class ais set text clear (Ok identity) (Err reading.NoReading) t u a b = absurd (b identity a)
one_class ais set text clear (Err reading.NoReading) (Ok identity) t u a b = absurd (a identity b)
one_class ais set text clear (Err reading.NoReading) (Err reading.NoReading) t u a b = refl
one_class ais set text clear (Err reading.Memory) other t u a b = absurd (t refl)
one_class ais set text clear one (Err reading.Memory) t u a b = absurd (u refl)

module _ (ais : List AiRow) (set : ClassRows) (text : List ℕ) (of : IsOfTable ais set) (clear : IsClear set) where
  counted_class : Counted (item_lists set.level.options) text → SomeKnown reading.Memory (ReadsAs ais set text)
  counted_class (none_of none) = (Err reading.NoReading, (λ e. cc), no_class ais set text none)
  counted_class (one_of option values one) =
      let read = class_read ais set text option values of one in
      let identity : Elements = lay ais (kind_of read.class) (said_by read.class values) in (
        Ok identity,
        (λ e. let f : Ok identity ≡ Err reading.Memory = e in cc),
        record {
          derivation = one.derivation;
          class = read.class;
          named = subst (λ (o : ℕ). slice_get set.classes o ≡ Some read.class) (sym one.of_option) read.at;
          is = ap (λ (v : List (List ℕ)). lay ais (kind_of read.class) (said_by read.class v)) (sym one.of_values);
        },
      )
  counted_class (two_of two) = absurd (clear (record { w = text; two = two }))

  some_class : SomeKnown reading.Memory (ReadsAs ais set text)
  some_class = counted_class (each_counted (item_lists set.level.options) text)

pub one_class_read : (by : ClassReading) → IsClear by.classes → HasOneAnswer (IsClassCanonLine by)
one_class_read by clear = one_line (IsClassLink by)
    (λ text. one_after_long (LinksClass by) text (then_one (Reworded reading.Memory class_reason (ReadsAs by.ais by.classes text)) (λ identity link. link ≡ Ok (canonical_link identity))
    (one_reworded reading.Memory class_reason (ReadsAs by.ais by.classes text) (one_class by.ais by.classes text clear))
    (λ identity one other a b. a ∙ sym b)))

pub some_class_read : (by : ClassReading) → IsOfTable by.ais by.classes → IsClear by.classes → HasAnswers (IsClassCanonLine by)
some_class_read by of clear = some_line (IsClassLink by)
    (λ text. some_after_long (LinksClass by) text (λ few. then_some (Reworded reading.Memory class_reason (ReadsAs by.ais by.classes text)) (λ identity link. link ≡ Ok (canonical_link identity))
    (some_reworded reading.Memory class_reason (ReadsAs by.ais by.classes text) (some_class by.ais by.classes text of clear))
    (λ identity is. (Ok (canonical_link identity), refl))))

-- ---- links

module _ (by : ClassWriting) where
  pub one_class_written : HasOneAnswer (IsClassUriLine by)
  one_class_written = one_line (IsClassText by) (λ text. then_one (IsRead by.tables Link text) (λ meaning written. written ≡ reworded class_write_reason (class_answer by.tables.ais by.classes by.prefixes by.gcp meaning.identity))
      (one_read by.tables Link text tt)
      (λ meaning one other a b. a ∙ sym b))

  pub some_class_written : HasAnswers (IsClassUriLine by)
  some_class_written = some_line (IsClassText by) (λ text. then_some (IsRead by.tables Link text) (λ meaning written. written ≡ reworded class_write_reason (class_answer by.tables.ais by.classes by.prefixes by.gcp meaning.identity))
      (some_read by.tables Link text tt)
      (λ meaning is. (reworded class_write_reason (class_answer by.tables.ais by.classes by.prefixes by.gcp meaning.identity), refl)))
