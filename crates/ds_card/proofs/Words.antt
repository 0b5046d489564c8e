-- The words of lower crates and of this one that its proofs speak in, from one place.
pub use Rattle.ds_base.specs.Numbers.{aligned_down, number_at}
pub use Rattle.ds_base.specs.declared.memories.Width.{Width}
pub use Rattle.ds_base.specs.declared.processors.Proc.{Proc}
pub use Rattle.ds_base.specs.declared.processors.Proc.TheVariants.{Nine, Seven}
pub use Rattle.ds_base.specs.declared.ticks.Tick.{Tick}
pub use Rattle.ds_card.specs.CardPorts.{block_words, data_port_at, words_of_size}
pub use Rattle.ds_card.specs.TransferLaws.CardHappens.{came, was_read, wrote}
pub use Rattle.ds_card.specs.declared.cards.NextWord.TheVariants.{Due, Ready}
pub use Rattle.ds_card.specs.declared.cards.Transfer.{Transfer}
