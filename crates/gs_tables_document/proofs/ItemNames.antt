-- The items of a level by their names.
use Rattle.std.proofs.Common.{◌≡◌, ℕ, true, false, List, codes, refl}
use Rattle.std.specs.Prelude.{Result, Err, option_map, option_and_then}
use Rattle.std.specs.Str.{bytes_eq}
use Rattle.serde_json.specs.Data.{Data}
use Rattle.gs_tables_document.specs.declared.error.ItemFault.{ItemFault}
use Rattle.gs_tables_document.specs.declared.error.ItemFault.TheVariants.{Bad}
use Rattle.gs_tables_document.specs.Items.{FieldItem, Reads, bit_item, bits_of, both, byte_arg, no_field, number_arg, short_arg, sized, text_arg, text_item, with_field}
use Rattle.gs_grammar.specs.declared.item.Item.TheVariants.{Ascii7, Digits, Esc, Fill, Int, Lit, Num, NumPad, NumStr, Pad}

module _ (name : List ℕ) (d : Data) (result : Result FieldItem ItemFault) where
  pub text_by_lit : true ≡ bytes_eq name (codes "lit") → Reads result (sized 2 d (no_field (option_map Lit (text_arg 1 d)))) → Reads result (text_item name d)
  text_by_lit h0 own = rw (← h0) own

  pub text_by_pad : false ≡ bytes_eq name (codes "lit") → true ≡ bytes_eq name (codes "pad") → Reads result (sized 3 d (with_field d (option_map Pad (byte_arg 2 d)))) → Reads result (text_item name d)
  text_by_pad h0 h1 own = rw (← h0, ← h1) own

  pub text_by_int : false ≡ bytes_eq name (codes "lit") → false ≡ bytes_eq name (codes "pad") → true ≡ bytes_eq name (codes "int")
      → Reads result (sized 3 d (with_field d (option_map Int (number_arg 2 d)))) → Reads result (text_item name d)
  text_by_int h0 h1 h2 own = rw (← h0, ← h1, ← h2) own

  pub text_by_esc : false ≡ bytes_eq name (codes "lit") → false ≡ bytes_eq name (codes "pad") → false ≡ bytes_eq name (codes "int")
      → true ≡ bytes_eq name (codes "esc") → Reads result (sized 4 d (with_field d (both (byte_arg 2 d) (byte_arg 3 d) Esc))) → Reads result (text_item name d)
  text_by_esc h0 h1 h2 h3 own = rw (← h0, ← h1, ← h2, ← h3) own

  pub text_by_digits : false ≡ bytes_eq name (codes "lit") → false ≡ bytes_eq name (codes "pad") → false ≡ bytes_eq name (codes "int")
      → false ≡ bytes_eq name (codes "esc") → true ≡ bytes_eq name (codes "digits") → Reads result (sized 4 d (with_field d (both (byte_arg 2 d) (byte_arg 3 d) Digits)))
      → Reads result (text_item name d)
  text_by_digits h0 h1 h2 h3 h4 own = rw (← h0, ← h1, ← h2, ← h3, ← h4) own

pub text_by_none : (name : List ℕ) (d : Data) → false ≡ bytes_eq name (codes "lit") → false ≡ bytes_eq name (codes "pad")
    → false ≡ bytes_eq name (codes "int") → false ≡ bytes_eq name (codes "esc") → false ≡ bytes_eq name (codes "digits")
    → Reads {X = FieldItem} (Err Bad) (text_item name d)
text_by_none name d h0 h1 h2 h3 h4 = rw (← h0, ← h1, ← h2, ← h3, ← h4) refl

module _ (name : List ℕ) (d : Data) (result : Result FieldItem ItemFault) where
  pub bit_by_lit : true ≡ bytes_eq name (codes "lit") → Reads result (sized 2 d (no_field (option_map Lit (option_and_then bits_of (text_arg 1 d))))) → Reads result (bit_item name d)
  bit_by_lit h0 own = rw (← h0) own

  pub bit_by_numpad : false ≡ bytes_eq name (codes "lit") → true ≡ bytes_eq name (codes "numpad") → Reads result (sized 4 d (with_field d (both (byte_arg 2 d) (byte_arg 3 d) NumPad))) → Reads result (bit_item name d)
  bit_by_numpad h0 h1 own = rw (← h0, ← h1) own

  pub bit_by_num : false ≡ bytes_eq name (codes "lit") → false ≡ bytes_eq name (codes "numpad") → true ≡ bytes_eq name (codes "num")
      → Reads result (sized 4 d (with_field d (both (byte_arg 2 d) (number_arg 3 d) Num))) → Reads result (bit_item name d)
  bit_by_num h0 h1 h2 own = rw (← h0, ← h1, ← h2) own

  pub bit_by_ascii7 : false ≡ bytes_eq name (codes "lit") → false ≡ bytes_eq name (codes "numpad") → false ≡ bytes_eq name (codes "num")
      → true ≡ bytes_eq name (codes "ascii7") → Reads result (sized 5 d (with_field d (option_and_then (λ bits. both (byte_arg 2 d) (byte_arg 3 d) (λ lo hi. Ascii7 lo hi bits)) (short_arg 4 d)))) → Reads result (bit_item name d)
  bit_by_ascii7 h0 h1 h2 h3 own = rw (← h0, ← h1, ← h2, ← h3) own

  pub bit_by_fill : false ≡ bytes_eq name (codes "lit") → false ≡ bytes_eq name (codes "numpad") → false ≡ bytes_eq name (codes "num")
      → false ≡ bytes_eq name (codes "ascii7") → true ≡ bytes_eq name (codes "fill") → Reads result (sized 3 d (no_field (both (byte_arg 1 d) (byte_arg 2 d) Fill)))
      → Reads result (bit_item name d)
  bit_by_fill h0 h1 h2 h3 h4 own = rw (← h0, ← h1, ← h2, ← h3, ← h4) own

  pub bit_by_numstr : false ≡ bytes_eq name (codes "lit") → false ≡ bytes_eq name (codes "numpad") → false ≡ bytes_eq name (codes "num")
      → false ≡ bytes_eq name (codes "ascii7") → false ≡ bytes_eq name (codes "fill") → true ≡ bytes_eq name (codes "numstr")
      → Reads result (sized 4 d (with_field d (both (byte_arg 2 d) (byte_arg 3 d) NumStr))) → Reads result (bit_item name d)
  bit_by_numstr h0 h1 h2 h3 h4 h5 own = rw (← h0, ← h1, ← h2, ← h3, ← h4, ← h5) own

pub bit_by_none : (name : List ℕ) (d : Data) → false ≡ bytes_eq name (codes "lit") → false ≡ bytes_eq name (codes "numpad")
    → false ≡ bytes_eq name (codes "num") → false ≡ bytes_eq name (codes "ascii7") → false ≡ bytes_eq name (codes "fill")
    → false ≡ bytes_eq name (codes "numstr") → Reads {X = FieldItem} (Err Bad) (bit_item name d)
bit_by_none name d h0 h1 h2 h3 h4 h5 = rw (← h0, ← h1, ← h2, ← h3, ← h4, ← h5) refl
