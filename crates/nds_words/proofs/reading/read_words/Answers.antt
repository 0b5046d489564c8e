use Rattle.std.proofs.Common.{sym, codes, refl}
use Rattle.std.specs.String.{string_bytes}
use Rattle.nds_words.proofs.WordLists.{three_of, four_of}
use Rattle.nds_words.proofs.reading.read_words.Goals as goal

pub returns-then-are_of-6-clause-some : goal.returns-then-are_of-6-clause-some
returns-then-are_of-6-clause-some c =
    let all = three_of string_bytes c.args.words.now (codes "demo") c.index-words-1-then-are_of-6.result c.index-words-2-then-are_of-6.result (c.if-are_of-6.ensures.0 refl)
    c.index-words-1-then-are_of-6.is c.index-words-2-then-are_of-6.is in
    rw (all, sym c.as_str-then-are_of-6.ensures.value, sym c.as_str-then-are_of-6-2.ensures.value) c.demo_of.ensures.some

pub returns-then-are_of-6-clause-none : goal.returns-then-are_of-6-clause-none
returns-then-are_of-6-clause-none c =
    let all = three_of string_bytes c.args.words.now (codes "demo") c.index-words-1-then-are_of-6.result c.index-words-2-then-are_of-6.result (c.if-are_of-6.ensures.0 refl)
    c.index-words-1-then-are_of-6.is c.index-words-2-then-are_of-6.is in
    rw (all, sym c.as_str-then-are_of-6.ensures.value, sym c.as_str-then-are_of-6-2.ensures.value) c.demo_of.ensures.none

pub returns-then-are_of-7-clause-some : goal.returns-then-are_of-7-clause-some
returns-then-are_of-7-clause-some c =
    let all = four_of string_bytes c.args.words.now (codes "save") c.index-words-1-then-are_of-7.result c.index-words-2-then-are_of-7.result c.index-words-3-then-are_of-7.result (c.if-are_of-7.ensures.0 refl)
    c.index-words-1-then-are_of-7.is c.index-words-2-then-are_of-7.is c.index-words-3-then-are_of-7.is in
    rw (all, sym c.as_str-then-are_of-7.ensures.value, sym c.as_str-then-are_of-7-2.ensures.value, sym c.as_str-then-are_of-7-3.ensures.value) c.save_of.ensures.some

pub returns-then-are_of-7-clause-none : goal.returns-then-are_of-7-clause-none
returns-then-are_of-7-clause-none c =
    let all = four_of string_bytes c.args.words.now (codes "save") c.index-words-1-then-are_of-7.result c.index-words-2-then-are_of-7.result c.index-words-3-then-are_of-7.result (c.if-are_of-7.ensures.0 refl)
    c.index-words-1-then-are_of-7.is c.index-words-2-then-are_of-7.is c.index-words-3-then-are_of-7.is in
    rw (all, sym c.as_str-then-are_of-7.ensures.value, sym c.as_str-then-are_of-7-2.ensures.value, sym c.as_str-then-are_of-7-3.ensures.value) c.save_of.ensures.none
