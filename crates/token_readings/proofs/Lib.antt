mod TokensBegun
