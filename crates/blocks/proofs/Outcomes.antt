-- Any two outcomes that the contract of a public call of this crate allows coincide: each contract is an equation.
-- Assumes nothing.
use mathlib.Core.Path.{◌∙◌, sym}
use Rattle.words.proofs.Unique.{OneAnswer}
use Rattle.blocks.proofs.read_header.Kinds as read-header-kinds
use Rattle.blocks.proofs.read_header.Reads as read-header
use Rattle.blocks.proofs.page_block.Kinds as page-block-kinds
use Rattle.blocks.proofs.page_block.Reads as page-block
use Rattle.blocks.proofs.block_at.Kinds as block-at-kinds
use Rattle.blocks.proofs.block_at.Reads as block_at

pub read-header-unique : OneAnswer read-header-kinds.ps read-header-kinds.r read-header.Post
read-header-unique κs a x y u v p q = p ∙ sym q

pub page-block-unique : OneAnswer page-block-kinds.ps page-block-kinds.r page-block.Post
page-block-unique κs a x y u v p q = p ∙ sym q

pub block-at-unique : OneAnswer block-at-kinds.ps block-at-kinds.r block_at.Post
block-at-unique κs a x y u v p q = p ∙ sym q
