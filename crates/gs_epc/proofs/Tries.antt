-- The text that one candidate writes, or the field that it does not hold.
use Rattle.std.proofs.Common.{◌≡◌, ℕ, ◌++◌, ◌%◌, ◌<◌, ◌==◌, ◌&&◌, not, true, List, length, map, take, Option, Some, None, slice_get, get_or, refl, sym, ap, ◌∙◌, arith, inl, inr}
use Rattle.std.specs.Option.{option_map}
use Rattle.std.proofs.lemmas.Bool.Decides.{nat_tests}
use Rattle.std.proofs.lemmas.List.{length-map, take_at}
use Rattle.std.proofs.lemmas.Option.{slice_get-map, slice_get_within}
use Rattle.gs_ai.specs.Tables.{is_empty}
use Rattle.gs_chars.proofs.TruthsAndLists.{read_at}
use Rattle.gs_tables_document.specs.declared.document.Field.{Field}
use Rattle.gs_tables_document.specs.declared.document.Field.TheVariants.{Filter}
use Rattle.gs_tables_document.specs.declared.document.LevelName.{LevelName}
use Rattle.gs_tables_document.specs.declared.document.LevelName.TheVariants.{Binary, Tag, Pure}
use Rattle.gs_tables_document.specs.declared.document.OptInfo.{OptInfo}
use Rattle.gs_tables_document.specs.Documents.{is_bits}
use Rattle.gs_tables_document.specs.Items.{FieldItem, alone}
use Rattle.gs_grammar.specs.declared.item.Item.{Item}
use Rattle.gs_grammar.specs.declared.error.Why.{Why}
use Rattle.gs_grammar.specs.declared.error.Why.TheVariants.{Length}
use Rattle.gs_grammar.specs.Items.{size_of_all}
use Rattle.gs_grammar.specs.Levels.{AreOfKind, LevelForm, OptionForm}
use Rattle.gs_grammar.specs.WrittenWords.{AreHeld, IsFirstRejection, written}
use Rattle.gs_tables.specs.KeptRules.{KeptOption}
use Rattle.gs_tables.specs.Rules.{is_filter, is_one, items_of_field, keeps_level}
use Rattle.gs_tables.specs.Tables.{IsShaped, TableRows, level_rows}
use Rattle.gs_tables.proofs.KeptSets.{options_kept}
use Rattle.gs_epc.specs.declared.epc.Epc.{Epc}
use Rattle.gs_epc.specs.Candidates.{Candidate, left_out, value_for, values_for}
use Rattle.gs_epc.specs.Writes.{field_at, HoldsAll, Rejects, text_by, text_on}
use Rattle.std.proofs.lemmas.Bool.{and_parts}

-- ---- the consequences of the rules for a candidate

pub candidate_kept : (set : TableRows) (level : LevelName) (epc : Epc) (i : ℕ) (candidate : Candidate set level epc i) → IsShaped set
    → KeptOption set level candidate.items candidate.info
candidate_kept set level epc i candidate shaped = options_kept set level shaped i candidate.items candidate.info candidate.of_level candidate.said

-- as many fields as items
pub as_many : (set : TableRows) (level : LevelName) (items : List Item) (info : OptInfo) → KeptOption set level items info → length info.fields ≡ length items
as_many set level items info kept =
    let fields = length-map kept.parts (λ (i : FieldItem). i.0) in
    let its = length-map kept.parts (λ (i : FieldItem). i.1) in
    rw (kept.fields_are, kept.items_are) (fields ∙ sym its)

eighth : (n : ℕ) → (n % 16 == 0) ≡ true → n % 8 ≡ 0
eighth n h = let e : n % 16 ≡ 0 = grind (arith, nat_tests) in omega arith

pub whole : (set : TableRows) (items : List Item) (info : OptInfo) → KeptOption set Binary items info → size_of_all items % 8 ≡ 0
unfolding keeps_level
whole set items info kept =
    let both = and_parts (not (is_empty info.encoding) && is_one is_filter (items_of_field Filter kept.parts)) (size_of_all (alone kept.parts) % 16 == 0) kept.of_level in
    rw kept.items_are (eighth (size_of_all (alone kept.parts)) both.1)

-- ---- the kind of symbols that an option has

-- a level's symbols are bits, or they are not
level_bits : (set : TableRows) (level : LevelName) → IsShaped set → (level_rows level set).level.bit_level ≡ is_bits level
level_bits set Binary shaped = rw shaped.made refl
level_bits set Tag shaped = rw shaped.made refl
level_bits set Pure shaped = rw shaped.made refl

-- an option has the symbols of its level
pub of_level : (set : TableRows) (level : LevelName) (form : LevelForm) (options : List OptionForm) (option : OptionForm) (i : ℕ)
    → IsShaped set → form ≡ (level_rows level set).level → AreOfKind form.bit_level form.options → options ≡ form.options
    → i < length options → option ≡ get_or options i option → option.bit_level ≡ is_bits level
of_level set level form options option i shaped same kinds rows low read =
    let all : AreOfKind form.bit_level options = rw rows kinds in
    let kind : (get_or options i option).bit_level ≡ form.bit_level = all i option low in
    ap (λ (o : OptionForm). o.bit_level) read ∙ kind ∙ ap (λ (f : LevelForm). f.bit_level) same ∙ level_bits set level shaped

-- ---- what a rejection leaves

-- bytes that are cut where a text was appended are those before it
pub cut_back : (before now cut text : List ℕ) (start : ℕ) → length before ≡ start → now ≡ before ++ text → cut ≡ take start now → cut ≡ before
cut_back before now cut text start size appended is = is ∙ rw appended (take_at before text start size)

-- ---- the facts of a candidate

-- the option, its fields and their values are the candidate's
pub record IsRead (set : TableRows) (level : LevelName) (epc : Epc) (i : ℕ) (candidate : Candidate set level epc i) (option : OptionForm)
    (fields : List (Option Field)) (values : List (List ℕ)) : Type 0 where
  pub items_are : option.items ≡ candidate.items
  pub fields_are : fields ≡ candidate.info.fields
  pub values_are : values ≡ values_for level epc candidate.info

option_read : (set : TableRows) (level : LevelName) (epc : Epc) (i : ℕ) (candidate : Candidate set level epc i) (form : LevelForm) (options : List OptionForm) (option : OptionForm)
    → form ≡ (level_rows level set).level → options ≡ form.options → option ≡ get_or options i option → option.items ≡ candidate.items
option_read set level epc i candidate form options option same rows read =
    let lists : slice_get (map (λ (o : OptionForm). o.items) options) i ≡ Some candidate.items = rw (rows, same) candidate.of_level in
    let within = slice_get_within (map (λ (o : OptionForm). o.items) options) i candidate.items lists in
    let count = length-map options (λ (o : OptionForm). o.items) in
    let here : slice_get options i ≡ Some option = read_at options i option (omega arith) read in
    let mapped : option_map (λ (o : OptionForm). o.items) (slice_get options i) ≡ Some candidate.items = sym (slice_get-map (λ (o : OptionForm). o.items) options i) ∙ lists in
    let both : Some option.items ≡ Some candidate.items = rw here at mapped in
    cc

-- the level has as many options as facts
pub option_low : (set : TableRows) (level : LevelName) (epc : Epc) (i : ℕ) (candidate : Candidate set level epc i) (form : LevelForm) (options : List OptionForm)
    → form ≡ (level_rows level set).level → options ≡ form.options → i < length options
option_low set level epc i candidate form options same rows =
    let lists : slice_get (map (λ (o : OptionForm). o.items) options) i ≡ Some candidate.items = rw (rows, same) candidate.of_level in
    let within = slice_get_within (map (λ (o : OptionForm). o.items) options) i candidate.items lists in
    let count = length-map options (λ (o : OptionForm). o.items) in
    omega arith

pub info_low : (set : TableRows) (level : LevelName) (epc : Epc) (i : ℕ) (candidate : Candidate set level epc i) (infos : List OptInfo)
    → infos ≡ (level_rows level set).info → i < length infos
info_low set level epc i candidate infos rows = slice_get_within infos i candidate.info (rw rows candidate.said)

info_read : (set : TableRows) (level : LevelName) (epc : Epc) (i : ℕ) (candidate : Candidate set level epc i) (infos : List OptInfo) (info : OptInfo)
    → infos ≡ (level_rows level set).info → info ≡ get_or infos i info → info ≡ candidate.info
info_read set level epc i candidate infos info rows read =
    let said : slice_get infos i ≡ Some candidate.info = rw rows candidate.said in
    let within = slice_get_within infos i candidate.info said in
    let here = read_at infos i info within read in
    let both : Some info ≡ Some candidate.info = sym here ∙ said in
    cc

pub is_read : (set : TableRows) (level : LevelName) (epc : Epc) (i : ℕ) (candidate : Candidate set level epc i) (form : LevelForm) (options : List OptionForm) (option : OptionForm) (infos : List OptInfo) (info : OptInfo) (fields : List (Option Field)) (values given : List (List ℕ))
    → form ≡ (level_rows level set).level → options ≡ form.options → option ≡ get_or options i option → infos ≡ (level_rows level set).info
    → info ≡ get_or infos i info → fields ≡ (get_or infos i info).fields → values ≡ map (value_for level epc) fields → given ≡ values
    → IsRead set level epc i candidate option fields given
is_read set level epc i candidate form options option infos info fields values given same rows read said at of made passed =
    let info_is = info_read set level epc i candidate infos info said at in
    let fields_are : fields ≡ candidate.info.fields = of ∙ ap (λ (x : OptInfo). x.fields) (sym at ∙ info_is) in
    record {
      items_are = option_read set level epc i candidate form options option same rows read;
      fields_are = fields_are;
      values_are = passed ∙ made ∙ ap (map (value_for level epc)) fields_are;
    }

module _ (set : TableRows) (level : LevelName) (epc : Epc) (i : ℕ) (candidate : Candidate set level epc i) (option : OptionForm)
    (fields : List (Option Field)) (values : List (List ℕ)) (is : IsRead set level epc i candidate option fields values) where
  -- one value for each item
  pub one_each : IsShaped set → length values ≡ length option.items
  one_each shaped =
      let many = as_many set level candidate.items candidate.info (candidate_kept set level epc i candidate shaped) in
      let mapped = length-map candidate.info.fields (value_for level epc) in
      rw (is.values_are, is.items_are) (mapped ∙ many)

  -- an option of bits has whole bytes
  pub of_bytes : IsShaped set → level ≡ Binary → size_of_all option.items % 8 ≡ 0
  of_bytes shaped bits =
      let kept = candidate_kept set level epc i candidate shaped in
      rw is.items_are (whole set candidate.items candidate.info (rw bits at kept))

  held_here : AreHeld option.items values → AreHeld candidate.items (values_for level epc candidate.info)
  held_here held = rw (is.items_are, is.values_are) at held

  pub leaves_out : (field : Field) → AreHeld option.items values → Some field ≡ left_out fields epc → Rejects set level epc candidate field Length
  leaves_out field held left = inr (record { held = held_here held; left = sym (rw is.fields_are at left); size = refl })

  pub holds_all : (before now : List ℕ) → AreHeld option.items values → None ≡ left_out fields epc → now ≡ before ++ text_on level (written option.items values)
      → HoldsAll set level epc candidate × (now ≡ before ++ text_by set level epc candidate)
  holds_all before now held none wrote =
      (record { held = held_here held; whole = sym (rw is.fields_are at none) }, rw (is.items_are, is.values_are) at wrote)

  pub rejects_at : (field : Field) (k : ℕ) (why : Why) → IsFirstRejection option.items values k why → field ≡ field_at fields k
      → Rejects set level epc candidate field why
  rejects_at field k why first named =
      inl (record { k = k; first = rw (is.items_are, is.values_are) at first; stands_for = rw is.fields_are at named })
