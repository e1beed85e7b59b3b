use Rattle.std.proofs.Common.{◌≡◌, ℕ, ◌<◌, List, false, sym, ap, ◌∙◌, arith, Some, inl, inr, length, codes, Bool, Decides}
use Rattle.std.specs.Char.{is_ascii_uppercase}
use Rattle.std.specs.List.{list_any}
use Rattle.std.specs.Str.{bytes_eq}
use Rattle.std.proofs.lemmas.Bool.Decides.{Decides-eqb, nat_tests}
use Rattle.std.proofs.lemmas.Slice.Eq.{slice_eq-Decides}
use Rattle.hex.proofs.HexLemmas.{decode_of-same}
use Rattle.servient_script.proofs.HexTexts.{decoded_bounds, hex_text-decoded, hex_text_cases}
use Rattle.servient_script.proofs.script.bytes_of.Goals as goal
use Rattle.servient_script.proofs.script.bytes_of.Goals.{then-is_empty-via-then-is_empty, then-is_empty-via-else-is_empty+then-text-most, then-is_empty-via-else-is_empty+else-text-most+then-has_upper_case}

-- the meaning of `text == "-"`
dash : (text : List ℕ) (r : Bool) → r ≡ bytes_eq text (codes "-") → Decides r (text ≡ codes "-")
dash text r is = slice_eq-Decides Decides-eqb text (codes "-") r is

pub returns-then-eq-clause-complete : goal.returns-then-eq-clause-complete
returns-then-eq-clause-complete c =
    λ bytes few each is.
    let is_dash = (dash c.args.text.now c.eq.result c.eq.ensures).0 c.if-eq.true in
    elim (hex_text_cases bytes c.args.text.now each is) [
      | inl none ↦ ap Some (c.new.ensures ∙ sym none.0)
      | inr digits ↦ absurd (omega (arith, digits.size, ap length is_dash))
    ]

pub returns-then-is_empty-clause-complete : goal.returns-then-is_empty-clause-complete
returns-then-is_empty-clause-complete c =
    λ bytes few each is.
    elim (hex_text_cases bytes c.args.text.now each is) [
      | inl none ↦
          let is_dash = (dash c.args.text.now c.eq.result c.eq.ensures).1 none.1 in
          cc (is_dash, c.if-eq.false)
      | inr digits ↦
          elim c.then-is_empty.branch [
            | then-is_empty-via-then-is_empty w ↦
                let empty : length c.args.text.now ≡ 0 = grind (arith, nat_tests, c.is_empty.ensures, w.if-is_empty.true) in
                absurd (omega (arith, digits.size, digits.some))
            | then-is_empty-via-else-is_empty+then-text-most w ↦ absurd (omega (arith, digits.size))
            | then-is_empty-via-else-is_empty+else-text-most+then-has_upper_case w ↦
                cc (w.has_upper_case.ensures, digits.lower, w.if-has_upper_case.true)
          ]
    ]

pub returns-in-Ok-clause-ok : goal.returns-in-Ok-clause-ok
returns-in-Ok-clause-ok c =
    let some : 0 < length c.args.text.now = grind (arith, nat_tests, c.is_empty.ensures, c.if-is_empty.false) in
    let lower : list_any is_ascii_uppercase c.args.text.now ≡ false = sym c.has_upper_case.ensures ∙ c.if-has_upper_case.false in
    rw c.from_vec.ensures (hex_text-decoded c.args.text.now c.in-Ok.bytes.items c.in-Ok.ensures.ok lower some)

pub returns-in-Ok-clause-bounds : goal.returns-in-Ok-clause-bounds
returns-in-Ok-clause-bounds c =
    let bounds = decoded_bounds c.args.text.now c.in-Ok.bytes.items c.in-Ok.ensures.ok in
    rw c.from_vec.ensures (omega (arith, bounds.0, c.if-text-most.false), bounds.1)

pub returns-in-Ok-clause-complete : goal.returns-in-Ok-clause-complete
returns-in-Ok-clause-complete c =
    λ bytes few each is.
    elim (hex_text_cases bytes c.args.text.now each is) [
      | inl none ↦
          let is_dash = (dash c.args.text.now c.eq.result c.eq.ensures).1 none.1 in
          cc (is_dash, c.if-eq.false)
      | inr digits ↦ ap Some (c.from_vec.ensures ∙ decode_of-same c.args.text.now c.in-Ok.bytes.items bytes c.in-Ok.ensures.ok digits.decodes)
    ]

pub returns-in_default : goal.returns-in_default
returns-in_default c = record {
  ok = tt;
  bounds = tt;
  complete =
      λ bytes few each is.
      elim (hex_text_cases bytes c.args.text.now each is) [
        | inl none ↦
            let is_dash = (dash c.args.text.now c.eq.result c.eq.ensures).1 none.1 in
            cc (is_dash, c.if-eq.false)
        | inr digits ↦
            elim c.in-Err.ensures.err [
              | inl memory ↦ absurd (c.in_default.not-OutOfMemory memory)
              | inr refused ↦ cc (digits.decodes, refused)
            ]
      ];
}
