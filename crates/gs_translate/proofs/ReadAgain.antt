-- A spelling as an element string or a link means the identity that is spelled.
use Rattle.std.proofs.Common.{◌≡◌, ℕ, Bool, true, false, List, Option, Some, None, Ok, Err, find, refl, sym, ap, subst}
use Rattle.std.specs.Prelude.{Result, codes}
use Rattle.gs_ai.specs.declared.pair.Pair.{Pair}
use Rattle.gs_dlink.proofs.WrittenLinks.{canonical_stem_ok, link_read}
use Rattle.gs_tables_document.specs.declared.document.Kind.{Kind}
use Rattle.gs_element.proofs.WritingLemmas.{bracketed_read, raw_read}
use Rattle.gs_element.specs.BracketedTexts.{bracketed_text}
use Rattle.gs_element.specs.Raw.{raw_text}
use Rattle.gs_ident.specs.Elements.{Elements, pairs_of}
use Rattle.gs_ident.specs.Identities.{IsMadeWith}
use Rattle.gs_ident.specs.Links.{canonical_link, spelled}
use Rattle.gs_prefix.specs.declared.entry.PrefixEntry.{PrefixEntry}
use Rattle.gs_tables.specs.Tables.{IsShaped, TableRows}
use Rattle.gs_translate.specs.declared.form.Form.{Form}
use Rattle.gs_translate.specs.declared.reader.Meaning.{Meaning}
use Rattle.gs_translate.specs.declared.form.Options.{Options}
use Rattle.gs_translate.specs.declared.reason.Reason.{Reason}
use Rattle.gs_translate.specs.declared.form.Target.{Target}
use Rattle.gs_translate.specs.declared.form.Target.TheVariants.{Hex, Tag, Pure, Raw, Bracketed, Link, Canon}
use Rattle.gs_translate.specs.Meanings.{IsIdentified, IsRead, ReadsBracketed, ReadsRaw, identity_meaning, link_reason}
use Rattle.gs_translate.specs.MeaningsSupport.{ReadsLink, identified}
use Rattle.gs_translate.specs.Steps.{Then, goes_on, rejects, reworded}
use Rattle.gs_translate.specs.Targets.{has_key, kept, narrowed}
use Rattle.gs_translate.specs.Translations.{AreInOrder, IsOfPairs, IsSpelling, IsTranslation, MeansIdentity}
use Rattle.gs_translate.proofs.MadeLaws.{made_of_read}
use Rattle.gs_translate.proofs.NarrowedLaws.{alone_is_made, serial_is_made}
use Rattle.gs_translate.proofs.PairLaws.{ais_kept}
use Rattle.gs_translate.proofs.SameLinks.{same_meaning}

-- ---- the kept part of an identity is made with the table

kind_kept : (set : TableRows) (identity : Elements) (kind : Option Kind) → IsShaped set → IsMadeWith set.ais identity
    → find (has_key identity.key.code) set.kinds ≡ kind → IsMadeWith set.ais (narrowed set identity)
kind_kept set identity None shaped made e = rw e (alone_is_made set.ais identity (ais_kept set shaped) made)
kind_kept set identity (Some kind) shaped made e = rw e (serial_is_made set.ais identity (ais_kept set shaped) made kind.serial)

pub kept_made : (set : TableRows) (keys_only : Bool) (meaning : Meaning) → IsShaped set → IsMadeWith set.ais meaning.identity
    → IsMadeWith set.ais (kept set keys_only meaning).identity
kept_made set true meaning shaped made = kind_kept set meaning.identity (find (has_key meaning.identity.key.code) set.kinds) shaped made refl
kept_made set false meaning shaped made = made

-- ---- pairs that are read of a spelling

-- a text whose pairs are those of an identity means it
pairs_mean : (set : TableRows) (Reads : Result (List Pair) Reason → Type 0) (identity : Elements) → IsMadeWith set.ais identity
    → Reads (Ok (pairs_of identity)) → Then Reads (IsIdentified set) (Ok (identity_meaning identity))
pairs_mean set Reads identity made read = goes_on (pairs_of identity) read (ap identified (sym made.given_back))

module _ (set : TableRows) (prefixes : List PrefixEntry) (options : Options) (shaped : IsShaped set) (in_order : AreInOrder options)
    (source : Meaning) (made : IsMadeWith set.ais source.identity) where
  abbrev identity : Elements
  identity = source.identity

  raw_again : (answer : List ℕ) → answer ≡ raw_text (pairs_of identity) → MeansIdentity set Raw answer identity
  raw_again answer e = record {
    meaning = identity_meaning identity;
    means = subst (λ (t : List ℕ). Then (ReadsRaw set t) (IsIdentified set) (Ok (identity_meaning identity))) (sym e)
        (pairs_mean set (ReadsRaw set (raw_text (pairs_of identity))) identity made (raw_read set.ais (ais_kept set shaped) identity made));
    same = refl;
  }

  bracketed_again : (answer : List ℕ) → answer ≡ bracketed_text (pairs_of identity) → MeansIdentity set Bracketed answer identity
  bracketed_again answer e = record {
    meaning = identity_meaning identity;
    means = subst (λ (t : List ℕ). Then (ReadsBracketed set t) (IsIdentified set) (Ok (identity_meaning identity))) (sym e)
        (pairs_mean set (ReadsBracketed set (bracketed_text (pairs_of identity))) identity made (bracketed_read set.ais (ais_kept set shaped) identity made));
    same = refl;
  }

  link_means : (answer : List ℕ) → answer ≡ spelled options.stem identity → Then (ReadsLink set answer) (IsIdentified set) (Ok (identity_meaning identity))
  link_means answer e =
      subst (λ (t : List ℕ). Then (ReadsLink set t) (IsIdentified set) (Ok (identity_meaning identity))) (sym e)
      (pairs_mean set (ReadsLink set (spelled options.stem identity)) identity made (ap (reworded link_reason) (sym (link_read set.ais (ais_kept set shaped) identity made options.stem in_order.stem))))

  canon_means : (answer : List ℕ) → answer ≡ canonical_link identity → Then (ReadsLink set answer) (IsIdentified set) (Ok (identity_meaning identity))
  canon_means answer e =
      subst (λ (t : List ℕ). Then (ReadsLink set t) (IsIdentified set) (Ok (identity_meaning identity))) (sym e)
      (pairs_mean set (ReadsLink set (canonical_link identity)) identity made (ap (reworded link_reason) (sym (link_read set.ais (ais_kept set shaped) identity made (codes "https://id.gs1.org") canonical_stem_ok))))

  spelling_again : (to : Target) (answer : List ℕ) → IsOfPairs to → IsSpelling set prefixes options to source (Ok answer) → MeansIdentity set to answer identity
  spelling_again Hex answer of s = absurd of
  spelling_again Tag answer of s = absurd of
  spelling_again Pure answer of s = absurd of
  spelling_again Raw answer of s = raw_again answer (let e : Ok answer ≡ Ok (raw_text (pairs_of identity)) = s in cc)
  spelling_again Bracketed answer of s = bracketed_again answer (let e : Ok answer ≡ Ok (bracketed_text (pairs_of identity)) = s in cc)
  spelling_again Link answer of s = record { meaning = identity_meaning identity; means = link_means answer (let e : Ok answer ≡ Ok (spelled options.stem identity) = s in cc); same = refl }
  spelling_again Canon answer of s = record { meaning = identity_meaning identity; means = canon_means answer (let e : Ok answer ≡ Ok (canonical_link identity) = s in cc); same = refl }

pub means_again : (set : TableRows) (prefixes : List PrefixEntry) (options : Options) (from : Form) (to : Target) (text answer : List ℕ) (source : Meaning)
    → IsShaped set → AreInOrder options → IsOfPairs to → IsRead set from text (Ok source)
    → IsTranslation set prefixes options from to text (Ok answer) → MeansIdentity set to answer (kept set options.keys_only source).identity
means_again set prefixes options from to text answer source shaped in_order of read (rejects error first e) = absurd (let f : Ok answer ≡ Err error = e in cc)
means_again set prefixes options from to text answer source shaped in_order of read (goes_on own first spelling) =
    let same : own ≡ source = same_meaning set from text own source shaped first read in
    let moved : IsSpelling set prefixes options to (kept set options.keys_only source) (Ok answer) = subst (λ (m : Meaning). IsSpelling set prefixes options to (kept set options.keys_only m) (Ok answer)) same spelling in
    let made = kept_made set options.keys_only source shaped (made_of_read set from text source shaped read) in
    spelling_again set prefixes options shaped in_order (kept set options.keys_only source) made to answer of moved
