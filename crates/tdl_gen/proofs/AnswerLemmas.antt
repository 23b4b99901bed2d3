-- The answer to a line, by the answers of two translations.
use Rattle.std.proofs.Common.{◌≡◌, ℕ, List, [], Result, refl, arith, subst}
use Rattle.std.specs.Prelude.{Ok, Err}
use Rattle.gs_dlink.proofs.WrittenLinks.{canonical_stem_ok}
use Rattle.gs_prefix.specs.declared.entry.PrefixEntry.{PrefixEntry}
use Rattle.gs_tables.specs.Tables.{TableRows}
use Rattle.gs_translate.specs.declared.form.Form.{Form}
use Rattle.gs_translate.specs.declared.form.Form.TheVariants as form
use Rattle.gs_translate.specs.declared.form.Options.{Options}
use Rattle.gs_translate.specs.declared.reason.Reason.{Reason}
use Rattle.gs_translate.specs.declared.form.Target.{Target}
use Rattle.gs_translate.specs.declared.form.Target.TheVariants as target
use Rattle.gs_translate.specs.Steps.{UnlessMemory, goes_on, rejects}
use Rattle.gs_translate.specs.Translations.{AreInOrder, IsTranslation}
use Rattle.gs_translate.proofs.StepLaws.{unless_map, unless_rejected}
use Rattle.tdl_gen.specs.Counts.{IsLineAnswer, IsPlain, filter_one}

pub filter_one_is_in_order : AreInOrder filter_one
filter_one_is_in_order = record { filter = omega arith; stem = canonical_stem_ok }

pub in_order : (options : Options) → options ≡ filter_one → AreInOrder options
in_order options is = rw is filter_one_is_in_order

-- a translation by the data of a line's answer
pub plain : (set : TableRows) (prefixes : List PrefixEntry) (options : Options) (from : Form) (to : Target) (text : List ℕ) (answer : Result (List ℕ) Reason)
    → prefixes ≡ [] → options ≡ filter_one → UnlessMemory answer (IsTranslation set prefixes options from to text answer)
    → UnlessMemory answer (IsPlain set from to text answer)
unfolding IsPlain
plain set prefixes options from to text answer none is translated =
    subst (λ (o : Options). UnlessMemory answer (IsTranslation set [] o from to text answer)) is
    (subst (λ (p : List PrefixEntry). UnlessMemory answer (IsTranslation set p options from to text answer)) none translated)

-- the answer to the bits is the answer to the line
pub answered_twice : (set : TableRows) (to : Target) (line hex bytes : List ℕ) (answer : Result (List ℕ) Reason) → bytes ≡ hex
    → IsPlain set form.Pure target.Hex line (Ok hex) → UnlessMemory answer (IsPlain set form.Hex to bytes answer) → to ≡ target.Canon
    → UnlessMemory answer (IsLineAnswer set line answer)
answered_twice set to line hex bytes answer same first second is =
    let canon : UnlessMemory answer (IsPlain set form.Hex target.Canon bytes answer) = subst (λ (t : Target). UnlessMemory answer (IsPlain set form.Hex t bytes answer)) is second in
    unless_map answer (λ next. goes_on hex first next) (subst (λ (b : List ℕ). UnlessMemory answer (IsPlain set form.Hex target.Canon b answer)) same canon)

-- the rejection of the line is the answer to it
pub rejected_first : (set : TableRows) (line : List ℕ) (error : Reason) → UnlessMemory {X = List ℕ} (Err error)
    (IsPlain set form.Pure target.Hex line (Err error)) → UnlessMemory {X = List ℕ} (Err error) (IsLineAnswer set line (Err error))
rejected_first set line error first = unless_rejected (List ℕ) (List ℕ) error (λ said. rejects error said refl) first
