use Rattle.std.proofs.Common.{◌++◌, codes}
use Rattle.ds_base.specs.Digits.{hex_digits}
use Rattle.asm_text.proofs.PlainLaws.{listed_line}
use Rattle.asm_text.proofs.ReadBack.{one_text, no_byte}
use Rattle.asm_text.proofs.laws.statement_laws.Goals as goal

pub returns : goal.returns
returns c = record {
  one = one_text;
  apart = λ arch set at w b ha hw hb. no_byte arch set at w (codes "0x" ++ hex_digits 2 b) ha hw;
  plain = λ arch set at w. (listed_line arch set at w).plain;
  long = λ arch set at w. (listed_line arch set at w).long;
}
