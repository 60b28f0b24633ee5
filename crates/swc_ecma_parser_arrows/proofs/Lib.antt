mod NoBlocks
mod ArrowParts
